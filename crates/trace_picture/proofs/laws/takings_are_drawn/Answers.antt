use Rattle.trace_picture.proofs.Seeing as seeing
use Rattle.trace_picture.proofs.laws.takings_are_drawn.Goals as goal

pub returns : goal.returns
returns c = seeing.takings_are_drawn
