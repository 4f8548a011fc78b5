use Rattle.std.proofs.Common.{◌≡◌, ◌<◌, ◌++◌, ℕ, List, [], get_or, ap, sym, ◌∙◌, refl, arith}
use Rattle.larch_actions.specs.declared.event.Event.{Event}
use Rattle.script_text.specs.Runs.{times, waited}
use Rattle.script_text.specs.Visits.{Hand}
use Rattle.script_run.specs.Playing.{HasMutex, HasWaited, IsInLine}
use Rattle.script_run.proofs.Waiting.{has_numbered, not_waited, numbered, number_now, one_more, still_less, times_more}
use Rattle.script_run.proofs.waits.until.Goals as goal

pub loop-init : goal.loop-init
loop-init g c = record { same = refl; played = λ xs hand s has. not_waited c.args.pkg.now xs c.args.awaited c.args.mutex hand c.args.me.now.number (λ k es. es ≡ times k (waited c.args.me.now.number c.args.mutex c.args.cond)) c.args.numbers.now c.args.me.now refl s; no_wait = λ le. (refl, refl) }

pub wait_once-requires-clause-playing : goal.wait_once-requires-clause-playing
wait_once-requires-clause-playing g c =
    let p = c.args.pkg.now in
    let t = c.args.me.now.number in
    let v = c.loop.invariant in
    let q = c.requires.playing in
    let w = v.played q.0 q.1 q.2 q.3 in
    (q.0, _, _, _, _, numbered p t c.loop.me.number q.0 _ _ _ _ _ _ (sym v.same) w.line, has_numbered p.layout t c.loop.me.number q.0 c.args.mutex.0 (sym v.same) q.3)

pub loop-preserved : goal.loop-preserved
loop-preserved g c =
    let p = c.args.pkg.now in
    let t = c.args.me.now.number in
    let u = c.loop.me.number in
    let m = c.args.mutex in
    let k = c.args.cond in
    let n = c.args.awaited in
    let v = c.loop.invariant in
    let q = c.requires.playing in
    let low : m.0 < 64 = omega (arith, c.requires.named.0, c.requires.lawful.mutexes) in
    let Are : ℕ → List Event → Type 0 = λ i es. es ≡ times i (waited t m k) in
    let step : (xs : List _) (hand : Hand) → IsInLine p t xs [] [] hand hand c.args.numbers.now c.args.me.now → HasMutex p.layout t xs m.0 → HasWaited p t xs Are n m hand c.wait_once.new.numbers c.wait_once.new.me =
    λ xs hand s has.
    let w = v.played xs hand s has in
    let here = numbered p t u xs _ _ _ _ _ _ (sym v.same) w.line in
    let there = has_numbered p.layout t u xs m.0 (sym v.same) has in
    let is = number_now p p.layout t xs _ _ _ _ c.loop.numbers c.loop.me w.line m low has in
    let less : get_or c.loop.numbers m.0 0 < n = omega (arith, c.if-numbers-mutex.false) in
    one_more p xs n m hand t Are Are u (get_or c.wait_once.new.numbers m.0 0) (λ i. waited i m k) c.loop.numbers c.wait_once.new.numbers c.loop.me c.wait_once.new.me v.same w (omega arith)
    (λ i long are. ap (λ l. l ++ waited t m k) are ∙ times_more i (waited t m k))
    (c.wait_once.ensures xs _ _ _ _ here there)
    in
    record {
      same = (step q.0 q.1 q.2 q.3).line.number;
      played = step;
      no_wait = λ le. absurd (still_less c.loop.numbers c.args.numbers.now m.0 n (v.no_wait le).0 le c.if-numbers-mutex.false);
    }
