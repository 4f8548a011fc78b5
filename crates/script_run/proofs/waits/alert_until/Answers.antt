use Rattle.std.proofs.Common.{◌≡◌, ◌<◌, ◌++◌, ℕ, List, [], get_or, ap, sym, ◌∙◌, refl, arith}
use Rattle.larch_actions.specs.declared.event.Event.{Event}
use Rattle.script_text.specs.Runs.{times, raised, returned}
use Rattle.script_text.specs.Visits.{Hand}
use Rattle.alert_wait.specs.declared.outcome.Outcome.TheVariants.{Alerted}
use Rattle.script_run.specs.Playing.{EndAs, HasMutex, HasWaited, IsInLine}
use Rattle.script_run.proofs.Waiting.{alerted≢returned, has_numbered, not_waited, numbered, number_now, one_more, still_less, times_more}
use Rattle.script_run.proofs.waits.alert_until.Goals as goal

pub loop-init : goal.loop-init
loop-init g c = record { same = refl; played = λ xs hand s has. not_waited c.args.pkg.now xs c.args.awaited c.args.mutex hand c.args.me.now.number (λ k es. es ≡ times k (returned c.args.me.now.number c.args.mutex c.args.cond)) c.args.numbers.now c.args.me.now refl s; no_wait = λ le. (refl, refl) }

pub alert_wait_once-requires-clause-playing : goal.alert_wait_once-requires-clause-playing
alert_wait_once-requires-clause-playing g c =
    let p = c.args.pkg.now in
    let t = c.args.me.now.number in
    let v = c.loop.invariant in
    let q = c.requires.playing in
    let w = v.played q.0 q.1 q.2 q.3 in
    (q.0, _, _, _, _, numbered p t c.loop.me.number q.0 _ _ _ _ _ _ (sym v.same) w.line, has_numbered p.layout t c.loop.me.number q.0 c.args.mutex.0 (sym v.same) q.3)

pub loop-preserved : goal.loop-preserved
loop-preserved g c =
    let p = c.args.pkg.now in
    let t = c.args.me.now.number in
    let u = c.loop.me.number in
    let m = c.args.mutex in
    let k = c.args.cond in
    let n = c.args.awaited in
    let v = c.loop.invariant in
    let q = c.requires.playing in
    let low : m.0 < 64 = omega (arith, c.requires.named.0, c.requires.lawful.mutexes) in
    let Are : ℕ → List Event → Type 0 = λ i es. es ≡ times i (returned t m k) in
    let step : (xs : List _) (hand : Hand) → IsInLine p t xs [] [] hand hand c.args.numbers.now c.args.me.now → HasMutex p.layout t xs m.0 → HasWaited p t xs Are n m hand c.alert_wait_once.new.numbers c.alert_wait_once.new.me =
    λ xs hand s has.
    let w = v.played xs hand s has in
    let here = numbered p t u xs _ _ _ _ _ _ (sym v.same) w.line in
    let there = has_numbered p.layout t u xs m.0 (sym v.same) has in
    let is = number_now p p.layout t xs _ _ _ _ c.loop.numbers c.loop.me w.line m low has in
    let less : get_or c.loop.numbers m.0 0 < n = omega (arith, c.if-numbers-mutex.false) in
    one_more p xs n m hand t Are Are u (get_or c.alert_wait_once.new.numbers m.0 0) (λ i. returned i m k) c.loop.numbers c.alert_wait_once.new.numbers c.loop.me c.alert_wait_once.new.me v.same w (omega arith)
    (λ i long are. ap (λ l. l ++ returned t m k) are ∙ times_more i (returned t m k))
    (c.in-Returned.ensures xs _ _ _ _ here there)
    in
    record {
      same = (step q.0 q.1 q.2 q.3).line.number;
      played = step;
      no_wait = λ le. absurd (still_less c.loop.numbers c.args.numbers.now m.0 n (v.no_wait le).0 le c.if-numbers-mutex.false);
    }

pub returns-in-Alerted-clause-played : goal.returns-in-Alerted-clause-played
returns-in-Alerted-clause-played g c xs hand s has =
    let p = c.args.pkg.now in
    let t = c.args.me.now.number in
    let u = c.loop.me.number in
    let m = c.args.mutex in
    let k = c.args.cond in
    let n = c.args.awaited in
    let v = c.loop.invariant in
    let low : m.0 < 64 = omega (arith, c.requires.named.0, c.requires.lawful.mutexes) in
    let Are : ℕ → List Event → Type 0 = λ i es. es ≡ times i (returned t m k) in
    let w = v.played xs hand s has in
    let here = numbered p t u xs _ _ _ _ _ _ (sym v.same) w.line in
    let there = has_numbered p.layout t u xs m.0 (sym v.same) has in
    let is = number_now p p.layout t xs _ _ _ _ c.loop.numbers c.loop.me w.line m low has in
    let less : get_or c.loop.numbers m.0 0 < n = omega (arith, c.if-numbers-mutex.false) in
    one_more p xs n m hand t Are (EndAs Alerted t m k) u (get_or c.alert_wait_once.new.numbers m.0 0) (λ i. raised i m k) c.loop.numbers c.alert_wait_once.new.numbers c.loop.me c.alert_wait_once.new.me v.same w (omega arith)
    (λ i long are. (i, refl, ap (λ l. l ++ raised t m k) are))
    (c.in-Alerted.ensures xs _ _ _ _ here there)

pub returns-in-Alerted-clause-enough : goal.returns-in-Alerted-clause-enough
returns-in-Alerted-clause-enough g c = λ e. absurd (alerted≢returned e)

pub returns-in-Alerted-clause-no_wait : goal.returns-in-Alerted-clause-no_wait
returns-in-Alerted-clause-no_wait g c = λ le.
    let same = (c.loop.invariant.no_wait le).0 in
    absurd (still_less c.loop.numbers c.args.numbers.now c.args.mutex.0 c.args.awaited same le c.if-numbers-mutex.false)
