use Rattle.std.proofs.Common.{ap, sym, ◌∙◌}
use Rattle.trace_board.specs.History.{entry_of}
use Rattle.trace_board.specs.Rows.{left, turned_by_semaphore, row_of}
use Rattle.trace_board.proofs.rows.Rows.note_semaphore.Goals as goal

pub returns-in-Begins : goal.returns-in-Begins
returns-in-Begins c = c.begin.ensures ∙ ap (λ w. turned_by_semaphore w c.args.t (entry_of c.args.taken.now) (row_of c.args.self.now)) (sym c.in-Begins.is)

pub returns-in-Ends : goal.returns-in-Ends
returns-in-Ends c =
    let f = row_of c.args.self.now in
    c.leave.ensures ∙ ap (λ o. left c.in-Ends.s o f) c.at.ensures ∙ ap (λ w. turned_by_semaphore w c.args.t (entry_of c.args.taken.now) f) (sym c.in-Ends.is)
