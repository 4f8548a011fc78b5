use Rattle.std.proofs.Common.{◌≡◌, ◌+◌, refl, arith}
use Rattle.std.specs.Prelude.{codes}
use Rattle.trace_core.proofs.UsualTexts.{stands_then, stands_end, after_wait}
use Rattle.trace_core.proofs.usual.action.alert_enqueue.Goals as goal

pub returns : goal.returns
returns c =
    let w = c.in_ok-wait.ensures.wait in
    let four = stands_end (let e : c.args.at + 8 + 4 ≡ c.args.at + 12 = omega arith in e) (stands_then (c.if-not-has_eight.ensures refl) (c.if-not-has_four.ensures refl)) in
    let two = stands_end (let e : c.args.at + 12 + 2 ≡ c.args.at + 14 = omega arith in e) (stands_then four (c.if-not-has_two.ensures refl)) in
    let word = stands_end (let e : c.args.at + 14 + 1 ≡ c.args.at + 15 = omega arith in e) (stands_then two (c.if-not-has_byte.ensures refl)) in
    record { named = (w.mutex, w.cond); made = tt; text = after_wait (codes "alert-enqueue m") word w }
