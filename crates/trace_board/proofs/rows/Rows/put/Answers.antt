use Rattle.std.proofs.Common.{rules}
use Rattle.larch_actions.proofs.Shown.{shown_at-set}
use Rattle.trace_board.specs.Rows.{empty_row}
use Rattle.trace_board.proofs.rows.Rows.put.Goals as goal

pub returns : goal.returns
returns c = shown_at-set (λ x. x) empty_row c.args.self.now.entries c.args.t c.args.now (search rules)
