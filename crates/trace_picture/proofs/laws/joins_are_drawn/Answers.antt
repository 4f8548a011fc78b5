use Rattle.trace_picture.proofs.RowsSeen as seen
use Rattle.trace_picture.proofs.laws.joins_are_drawn.Goals as goal

pub returns : goal.returns
returns c = seen.joins_are_drawn
