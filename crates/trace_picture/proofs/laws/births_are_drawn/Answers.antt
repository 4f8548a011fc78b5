use Rattle.trace_picture.proofs.Births as births
use Rattle.trace_picture.proofs.laws.births_are_drawn.Goals as goal

pub returns : goal.returns
returns c = births.births_are_drawn
