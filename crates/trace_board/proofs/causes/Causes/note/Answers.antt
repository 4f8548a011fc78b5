use Rattle.std.proofs.Common.{ap, sym, ◌∙◌}
use Rattle.larch_actions.specs.Actions.{put}
use Rattle.trace_board.specs.Causes.{opened, come, moved, cause_of}
use Rattle.trace_board.proofs.causes.Causes.note.Goals as goal

pub returns-in-Awaits : goal.returns-in-Awaits
returns-in-Awaits c = c.put.ensures ∙ ap (λ m. moved m c.args.by (cause_of c.args.self.now)) (sym c.in-Awaits.is)

pub returns-in-Ends : goal.returns-in-Ends
returns-in-Ends c = c.put-in-Ends.ensures ∙ ap (λ m. moved m c.args.by (cause_of c.args.self.now)) (sym c.in-Ends.is)

pub returns-in-Frees : goal.returns-in-Frees
returns-in-Frees c = c.free.ensures ∙ ap (λ m. moved m c.args.by (cause_of c.args.self.now)) (sym c.in-Frees.is)

pub returns-in-Opens : goal.returns-in-Opens
returns-in-Opens c =
    let f = cause_of c.args.self.now in
    c.put-in-Opens.ensures ∙ ap (put f c.in-Opens.k) (c.opened_by-now.ensures ∙ ap (opened c.args.by) c.at-was.ensures) ∙ ap (λ m. moved m c.args.by f) (sym c.in-Opens.is)

pub returns-in-Comes : goal.returns-in-Comes
returns-in-Comes c =
    let f = cause_of c.args.self.now in
    c.put-in-Comes.ensures ∙ ap (put f c.in-Comes.k) (c.come_by-now.ensures ∙ ap (come c.args.by) c.at-was-in-Comes.ensures) ∙ ap (λ m. moved m c.args.by f) (sym c.in-Comes.is)
