use Rattle.trace_picture.proofs.RowsSeen as seen
use Rattle.trace_picture.proofs.laws.rows_begin.Goals as goal

pub returns : goal.returns
returns c = seen.rows_begin
