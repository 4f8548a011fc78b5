use Rattle.std.proofs.Common.{ap, sym, ◌∙◌}
use Rattle.trace_board.specs.Rows.{left, row_of}
use Rattle.trace_board.proofs.rows.Rows.leave.Goals as goal

pub returns-in-Some : goal.returns-in-Some
returns-in-Some c = c.end.ensures ∙ ap (λ o. left c.args.sem o (row_of c.args.self.now)) (sym c.in-Some.is)
