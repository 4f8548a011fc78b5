use Rattle.trace_picture.proofs.RowsSeen as seen
use Rattle.trace_picture.proofs.laws.forks_are_drawn.Goals as goal

pub returns : goal.returns
returns c = seen.forks_are_drawn
