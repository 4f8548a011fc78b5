use Rattle.std.proofs.Common.{◌≡◌, ◌+◌, ◌++◌, refl, arith}
use Rattle.std.specs.Prelude.{codes, decimal}
use Rattle.trace_core.proofs.UsualTexts.{stands_then, stands_end, after_wait, returned, raised}
use Rattle.trace_core.proofs.usual.action.alert_resume.Goals as goal

pub returns-then-ending : goal.returns-then-ending
returns-then-ending c =
    let w = c.in_ok-wait.ensures.wait in
    let four = stands_end (let e : c.args.at + 8 + 4 ≡ c.args.at + 12 = omega arith in e) (stands_then (c.if-not-has_eight.ensures refl) (c.if-not-has_four.ensures refl)) in
    let word = stands_end (let e : c.args.at + 12 + 2 ≡ c.args.at + 14 = omega arith in e) (stands_then four (c.if-not-has_two.ensures refl)) in
    record { named = (w.mutex, w.cond); made = tt; text = returned (codes "alert-resume m" ++ decimal c.in_ok-wait.wait.mutex.0 ++ codes " c" ++ decimal c.in_ok-wait.wait.cond.0) (after_wait (codes "alert-resume m") word w) c.in_ok-ending.ensures.ending c.if-ending.true }

pub returns : goal.returns
returns c =
    let w = c.in_ok-wait.ensures.wait in
    let four = stands_end (let e : c.args.at + 8 + 4 ≡ c.args.at + 12 = omega arith in e) (stands_then (c.if-not-has_eight.ensures refl) (c.if-not-has_four.ensures refl)) in
    let word = stands_end (let e : c.args.at + 12 + 2 ≡ c.args.at + 14 = omega arith in e) (stands_then four (c.if-not-has_two.ensures refl)) in
    record { named = (w.mutex, w.cond); made = tt; text = raised (codes "alert-resume m" ++ decimal c.in_ok-wait.wait.mutex.0 ++ codes " c" ++ decimal c.in_ok-wait.wait.cond.0) (after_wait (codes "alert-resume m") word w) c.in_ok-ending.ensures.ending c.if-ending.false }
