use Rattle.std.proofs.Common.{ap, sym, ◌∙◌}
use Rattle.trace_board.specs.Tracked.{came, let_on_by, tracked_of}
use Rattle.trace_board.proofs.board.TraceState.waker.Goals as goal

pub returns-in-Condition : goal.returns-in-Condition
returns-in-Condition c = c.event_of.ensures ∙ ap came c.at.ensures ∙ ap (let_on_by (tracked_of c.args.self.now)) (sym c.in-Condition.is)

pub returns-in-Semaphore : goal.returns-in-Semaphore
returns-in-Semaphore c = c.event_of-in-Semaphore.ensures ∙ ap came c.at-in-Semaphore.ensures ∙ ap (let_on_by (tracked_of c.args.self.now)) (sym c.in-Semaphore.is)

pub returns-in-Alerted : goal.returns-in-Alerted
returns-in-Alerted c = c.event_of-in-Alerted.ensures ∙ ap came c.at-in-Alerted.ensures ∙ ap (let_on_by (tracked_of c.args.self.now)) (sym c.in-Alerted.is)

pub returns-in-Ended : goal.returns-in-Ended
returns-in-Ended c = c.at-in-Ended.ensures ∙ ap (let_on_by (tracked_of c.args.self.now)) (sym c.in-Ended.is)
