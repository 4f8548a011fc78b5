use Rattle.trace_picture.proofs.RowsSeen as seen
use Rattle.trace_picture.proofs.laws.idle_are_named.Goals as goal

pub returns : goal.returns
returns c = seen.idle_are_named
