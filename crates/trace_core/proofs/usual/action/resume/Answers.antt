use Rattle.std.proofs.Common.{refl}
use Rattle.std.specs.Prelude.{codes}
use Rattle.trace_core.proofs.UsualTexts.{after_wait}
use Rattle.trace_core.proofs.usual.action.resume.Goals as goal

pub returns : goal.returns
returns c =
    let w = c.in_ok-wait.ensures.wait in
    record { named = (w.mutex, w.cond); made = tt; text = after_wait (codes "resume m") (c.if-not-has_eight.ensures refl) w }
