use Rattle.trace_core.proofs.RowWays.{other_row}
use Rattle.trace_core.proofs.action.row.Goals as goal

pub returns-then-is_other : goal.returns-then-is_other
returns-then-is_other c = other_row c.args.layout.now c.args.first c.args.bytes.now (c.is_other.ensures c.if-is_other.true)
