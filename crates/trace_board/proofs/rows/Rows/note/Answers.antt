use Rattle.std.proofs.Common.{ap, sym, ◌∙◌}
use Rattle.trace_board.specs.Rows.{turned, row_of}
use Rattle.trace_board.proofs.rows.Rows.note.Goals as goal

pub returns-in-Begins : goal.returns-in-Begins
returns-in-Begins c = c.begin.ensures ∙ ap (λ w. turned w c.args.t (row_of c.args.self.now)) (sym c.in-Begins.is)

pub returns-in-Ends : goal.returns-in-Ends
returns-in-Ends c = c.end.ensures ∙ ap (λ w. turned w c.args.t (row_of c.args.self.now)) (sym c.in-Ends.is)
