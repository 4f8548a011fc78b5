use Rattle.std.proofs.Common.{◌≡◌, ◌+◌, ◌++◌, refl, arith}
use Rattle.std.specs.Prelude.{codes, decimal}
use Rattle.trace_core.proofs.UsualTexts.{stands_then, stands_end, after_name, returned, raised}
use Rattle.trace_core.proofs.usual.action.alert_p.Goals as goal

pub returns-then-ending : goal.returns-then-ending
returns-then-ending c =
    let s = c.in_ok-s.ensures.name in
    let word = stands_end (let e : c.args.at + 8 + 1 ≡ c.args.at + 9 = omega arith in e) (stands_then (c.if-not-has_eight.ensures refl) (c.if-not-has_byte.ensures refl)) in
    record { named = s.below; made = tt; text = returned (codes "alert-p s" ++ decimal c.in_ok-s.s.value) (after_name (codes "alert-p s") word s) c.in_ok-ending.ensures.ending c.if-ending.true }

pub returns : goal.returns
returns c =
    let s = c.in_ok-s.ensures.name in
    let word = stands_end (let e : c.args.at + 8 + 1 ≡ c.args.at + 9 = omega arith in e) (stands_then (c.if-not-has_eight.ensures refl) (c.if-not-has_byte.ensures refl)) in
    record { named = s.below; made = tt; text = raised (codes "alert-p s" ++ decimal c.in_ok-s.s.value) (after_name (codes "alert-p s") word s) c.in_ok-ending.ensures.ending c.if-ending.false }
