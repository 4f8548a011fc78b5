use Rattle.std.proofs.Common.{ap, inl, inr, ◌∙◌}
use Rattle.command_check.specs.VerdictEndings.{status_of}
use Rattle.command_check.proofs.Found.{found_by}
use Rattle.program_timeline.proofs.command.timeline.Goals as goal

pub returns-in-Ok-clause-answers : goal.returns-in-Ok-clause-answers
returns-in-Ok-clause-answers g c = inl (c.in-Ok.found, c.in-Ok.ensures.just, c.in-Ok.ensures.drawn, c.ends_by.ensures.notes, c.ends_by.ensures.status)

pub returns-in-Err-clause-answers : goal.returns-in-Err-clause-answers
returns-in-Err-clause-answers g c = inr (c.ends.ensures.status, c.in-Err.ensures.cause.failed, c.in-Err.ensures.cut_off, c.ends.ensures.notes)

pub returns-in-Ok-clause-exact : goal.returns-in-Ok-clause-exact
returns-in-Ok-clause-exact g c = λ bytes v reported mine other f.
    found_by c.ends_by.result c.in-Ok.found v (c.in-Ok.ensures.exact bytes v reported (λ e. mine (c.ends_by.ensures.status ∙ ap status_of e)) other f) (inl c.ends_by.ensures.status)

pub returns-in-Ok-clause-reported : goal.returns-in-Ok-clause-reported
returns-in-Ok-clause-reported g c = λ mine sink. c.in-Ok.ensures.reported (λ e. mine (c.ends_by.ensures.status ∙ ap status_of e))
