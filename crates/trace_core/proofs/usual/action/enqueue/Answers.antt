use Rattle.std.proofs.Common.{◌≡◌, ◌+◌, refl, arith}
use Rattle.std.specs.Prelude.{codes}
use Rattle.trace_core.proofs.UsualTexts.{stands_then, stands_end, after_wait}
use Rattle.trace_core.proofs.usual.action.enqueue.Goals as goal

pub returns : goal.returns
returns c =
    let w = c.in_ok-wait.ensures.wait in
    let word = stands_end (let e : c.args.at + 8 + 1 ≡ c.args.at + 9 = omega arith in e) (stands_then (c.if-not-has_eight.ensures refl) (c.if-not-has_byte.ensures refl)) in
    record { named = (w.mutex, w.cond); made = tt; text = after_wait (codes "enqueue m") word w }
