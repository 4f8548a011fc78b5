use Rattle.trace_picture.proofs.Waits as waits
use Rattle.trace_picture.proofs.laws.waits_are_drawn.Goals as goal

pub returns : goal.returns
returns c = waits.waits_are_drawn
