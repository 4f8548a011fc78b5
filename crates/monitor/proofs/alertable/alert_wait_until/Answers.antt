use Rattle.std.proofs.Common.{◌≡◌, ℕ, zero, suc, true, false, List, [], ◌∷◌, ◌++◌, sym, subst, ◌∙◌, append-nil}
use Rattle.std.specs.Fn.{FnReturnsAt}
use Rattle.std.proofs.lemmas.Fn.{says_at}
use Rattle.larch_actions.specs.declared.event.Event.{Event}
use Rattle.nub_rule.specs.Plays.{enqueue_event}
use Rattle.nub.specs.Rest.{Added}
use Rattle.alert_wait.specs.declared.outcome.Outcome.{Outcome}
use Rattle.alert_wait.specs.declared.outcome.Outcome.TheVariants.{Alerted, Returned}
use Rattle.alert_wait.specs.Outcomes.{wait_end}
use Rattle.monitor.specs.Waits.{IsRefused, alert_waits, last_wait}
use Rattle.monitor.proofs.Having.{HasBack, alert_waits_more, has_on, has_yet, holds_again, may_release, none_refused, one_refused, waited}
use Rattle.monitor.proofs.alertable.alert_wait_until.Given.{Over}
use Rattle.monitor.proofs.alertable.alert_wait_until.Goals.{After-alert_wait-outcome}
use Rattle.monitor.proofs.alertable.alert_wait_until.Goals as goal

-- one wait more, however it ended
once : (g : Over) (c : After-alert_wait-outcome g) → HasBack g.U.Uses.fits c.args.p.now c.args.m.0
    (alert_waits c.args.me.now.number c.args.m.0 c.args.c.0 c.loop.invariant.0 ++ enqueue_event true c.args.me.now.number c.args.m.0 c.args.c.0 ∷ wait_end c.alert_wait-outcome.result.0 c.args.me.now.number c.args.m.0 c.args.c.0 ∷ [])
    c.alert_wait-outcome.result.1 c.args.me.now c.alert_wait-outcome.new.me
once g c =
    let inv = c.loop.invariant in
    let p = c.args.p.now in
    let m = c.args.m.0 in
    let d = c.args.c.0 in
    let o = c.alert_wait-outcome.result.0 in
    let y = c.alert_wait-outcome.result.1 in
    let a = c.args.me.now in
    let b = c.loop.me in
    let e = c.alert_wait-outcome.new.me in
    let w = c.alert_wait-outcome.ensures in
    let own = c.requires.share in
    let same = inv.1.same in
    let one = waited g.U.Uses.fits p m (λ (n : ℕ). enqueue_event true n m d ∷ []) (λ (n : ℕ). wait_end o n m d) own.0 c.loop.value y b e (same.world ∙ c.requires.world) (inv.1.share ∙ own.1)
    inv.1.holds w.rest w.same w.event w.holds w.held w.share w.fits in
    let by : ℕ → List Event = λ n. enqueue_event true n m d ∷ wait_end o n m d ∷ [] in
    subst (λ (n : ℕ). HasBack g.U.Uses.fits p m (alert_waits a.number m d inv.0 ++ by n) y a e) same.number
    (has_on g.U.Uses.fits p m (alert_waits a.number m d inv.0) (by b.number) c.loop.value y a b e inv.1 one)

-- after an alert
ended : (g : Over) (c : After-alert_wait-outcome g) → c.alert_wait-outcome.result.0 ≡ Alerted
    → HasBack g.U.Uses.fits c.args.p.now c.args.m.0 (alert_waits c.args.me.now.number c.args.m.0 c.args.c.0 c.loop.invariant.0 ++ last_wait c.args.me.now.number c.args.m.0 c.args.c.0 Alerted) c.alert_wait-outcome.result.1 c.args.me.now c.alert_wait-outcome.new.me
ended g c is =
    let t = c.args.me.now.number in
    let m = c.args.m.0 in
    let d = c.args.c.0 in
    subst (λ (o : Outcome). HasBack g.U.Uses.fits c.args.p.now m (alert_waits t m d c.loop.invariant.0 ++ enqueue_event true t m d ∷ wait_end o t m d ∷ []) c.alert_wait-outcome.result.1 c.args.me.now c.alert_wait-outcome.new.me) is (once g c)

-- the value in hand was refused, too
refused : (g : Over) (c : After-alert_wait-outcome g) → FnReturnsAt g.T.Fn c.args.test.now c.loop.value false → IsRefused (λ x. FnReturnsAt g.T.Fn c.args.test.now x false) c.args.got (suc c.loop.invariant.0) c.alert_wait-outcome.result.1
refused g c = one_refused (λ x. FnReturnsAt g.T.Fn c.args.test.now x false) c.args.got c.loop.invariant.0 c.loop.value c.alert_wait-outcome.result.1 c.loop.invariant.2

pub loop-init : goal.loop-init
loop-init g c = (zero, has_yet g.U.Uses.fits c.args.p.now c.args.m.0 c.args.got c.args.me.now c.requires.rest c.requires.holds c.requires.fits, none_refused (λ x. FnReturnsAt g.T.Fn c.args.test.now x false) c.args.got)

pub alert_wait-outcome-requires-clause-rest : goal.alert_wait-outcome-requires-clause-rest
alert_wait-outcome-requires-clause-rest g c κs within = c.loop.invariant.1.rest

pub alert_wait-outcome-requires-clause-may : goal.alert_wait-outcome-requires-clause-may
alert_wait-outcome-requires-clause-may g c κs within =
    let inv = c.loop.invariant in
    may_release g.U.Uses.fits c.args.p.now c.args.m.0 g.U.Uses.allows (λ w k t z v s. s) (alert_waits c.args.me.now.number c.args.m.0 c.args.c.0 inv.0) c.loop.value c.loop.value c.args.me.now c.loop.me c.requires.world inv.1 (c.requires.stays c.loop.value)

pub loop-preserved : goal.loop-preserved
loop-preserved g c =
    let t = c.args.me.now.number in
    let m = c.args.m.0 in
    let d = c.args.c.0 in
    let k = c.loop.invariant.0 in
    let is : c.alert_wait-outcome.result.0 ≡ Returned = c.in-Returned.is in
    let on = subst (λ (o : Outcome). HasBack g.U.Uses.fits c.args.p.now m (alert_waits t m d k ++ enqueue_event true t m d ∷ wait_end o t m d ∷ []) c.alert_wait-outcome.result.1 c.args.me.now c.alert_wait-outcome.new.me) is (once g (goal.at.loop-preserved g c).After-alert_wait-outcome) in (
      suc k,
      subst (λ (l : List Event). HasBack g.U.Uses.fits c.args.p.now m l c.alert_wait-outcome.result.1 c.args.me.now c.alert_wait-outcome.new.me) (alert_waits_more t m d k) on,
      refused g (goal.at.loop-preserved g c).After-alert_wait-outcome (says_at g.T.Fn c.test.ensures c.if-test.false),
    )

pub returns-then-test : goal.returns-then-test
returns-then-test g c =
    let k = c.loop.invariant.0 in
    let h = c.loop.invariant.1 in
    let es = alert_waits c.args.me.now.number c.args.m.0 c.args.c.0 k in
    let P : List Event → Type 0 = λ l. Added l c.args.me.now c.loop.me in
    record {
      tested = λ is. says_at g.T.Fn c.test.ensures c.if-test.true;
      rest = h.rest;
      same = h.same;
      event = (k, subst P (sym (append-nil es)) h.events, c.loop.invariant.2);
      holds = h.holds;
      held = h.held;
      share = h.share;
      fits = h.fits;
      holding = λ n s x i. holds_again g.U.Uses.fits c.args.p.now c.args.m.0 es n s x c.loop.value c.args.me.now c.loop.me i h;
    }

pub returns-in-Alerted : goal.returns-in-Alerted
returns-in-Alerted g c =
    let t = c.args.me.now.number in
    let m = c.args.m.0 in
    let d = c.args.c.0 in
    let k = c.loop.invariant.0 in
    let h = ended g (goal.at.returns-in-Alerted g c).After-alert_wait-outcome c.in-Alerted.is in
    record {
      tested = λ is. absurd (cc);
      rest = h.rest;
      same = h.same;
      event = (k, h.events, refused g (goal.at.returns-in-Alerted g c).After-alert_wait-outcome (says_at g.T.Fn c.test.ensures c.if-test.false));
      holds = h.holds;
      held = h.held;
      share = h.share;
      fits = h.fits;
      holding = λ n s x i. holds_again g.U.Uses.fits c.args.p.now m (alert_waits t m d k ++ last_wait t m d Alerted) n s x c.alert_wait-outcome.result.1 c.args.me.now c.alert_wait-outcome.new.me i h;
    }
