use Rattle.std.proofs.Common.{◌≡◌, ℕ, false, List, [], ◌∷◌, ◌++◌, Some, rules, sym, subst, ◌∙◌}
use Rattle.std.specs.Fn.{FnOnceReturnsAtMut, FnReturnsAt}
use Rattle.larch_actions.specs.declared.event.Event.{Event}
use Rattle.nub_rule.specs.Plays.{acquire_event, release_event}
use Rattle.nub.specs.Rest.{Adds}
use Rattle.nub.proofs.Holding.{held_back}
use Rattle.nub.proofs.Users.{same_on}
use Rattle.alert_wait.specs.declared.outcome.Outcome.{Outcome}
use Rattle.monitor.specs.Waits.{AreRefused, alert_waits, all_waits, last_wait}
use Rattle.monitor.proofs.Having.{HasBack, fits_before, gave, has_on, may_release, stays_after, took}
use Rattle.monitor.proofs.alertable.alert_locked_when.Given.{Over}
use Rattle.monitor.proofs.alertable.alert_locked_when.Goals.{After-alert_wait_until-outcome}
use Rattle.monitor.proofs.alertable.alert_locked_when.Goals as goal

-- the thread has the mutex with the value that the test accepted, or with any after an alert
back : (g : Over) (c : After-alert_wait_until-outcome g) → (k : ℕ) × HasBack g.U.Uses.fits c.args.p.now c.args.m.0
    (acquire_event c.args.me.now.number c.args.m.0 ∷ (alert_waits c.args.me.now.number c.args.m.0 c.args.c.0 k ++ last_wait c.args.me.now.number c.args.m.0 c.args.c.0 c.alert_wait_until-outcome.result.0))
    c.alert_wait_until-outcome.result.1 c.args.me.now c.alert_wait_until-outcome.new.me
back g c =
    let p = c.args.p.now in
    let m = c.args.m.0 in
    let a = c.args.me.now in
    let b = c.acquire-got.new.me in
    let d = c.alert_wait_until-outcome.new.me in
    let x = c.alert_wait_until-outcome.result.1 in
    let got = c.acquire-got.ensures in
    let w = c.alert_wait_until-outcome.ensures in
    let k = w.event.0 in
    let first = took g.U.Uses.fits p m (λ (n : ℕ). acquire_event n m) c.acquire-got.result a b c.requires.world got.rest got.same got.event got.holds got.held got.share got.fits in
    let es : ℕ → List Event = λ n. alert_waits n m c.args.c.0 k ++ last_wait n m c.args.c.0 c.alert_wait_until-outcome.result.0 in
    let then : HasBack g.U.Uses.fits p m (es b.number) x b d = record { rest = w.rest; same = w.same; events = w.event.1; holds = w.holds; held = w.held; share = w.share; fits = w.fits } in
    let both = has_on g.U.Uses.fits p m (acquire_event a.number m ∷ []) (es b.number) c.acquire-got.result x a b d first then in
    (k, subst (λ (n : ℕ). HasBack g.U.Uses.fits p m (acquire_event a.number m ∷ es n) x a d) got.same.number both)

pub alert_wait_until-outcome-requires-clause-share : goal.alert_wait_until-outcome-requires-clause-share
alert_wait_until-outcome-requires-clause-share g c κs within = (c.requires.share.0, c.acquire-got.ensures.share ∙ c.requires.share.1)

pub alert_wait_until-outcome-requires-clause-fits : goal.alert_wait_until-outcome-requires-clause-fits
alert_wait_until-outcome-requires-clause-fits g c κs within = λ s own.
    let got = c.acquire-got.ensures in
    subst (λ (n : ℕ). g.U.Uses.fits c.args.p.now.world c.args.m.0 c.acquire-got.result n s) (sym got.same.number) (got.fits c.args.p.now.world s c.requires.world (sym got.share ∙ own))

pub alert_wait_until-outcome-requires-clause-testable : goal.alert_wait_until-outcome-requires-clause-testable
alert_wait_until-outcome-requires-clause-testable g c κs within = λ x fit.
    let got = c.acquire-got.ensures in
    c.requires.testable x (fits_before g.U.Uses.fits c.args.p.now c.args.m.0 x.now c.args.me.now c.acquire-got.new.me got.same got.share fit)

pub alert_wait_until-outcome-requires-clause-stays : goal.alert_wait_until-outcome-requires-clause-stays
alert_wait_until-outcome-requires-clause-stays g c κs within =
    let got = c.acquire-got.ensures in
    stays_after g.U.Uses.fits c.args.p.now c.args.m.0 g.U.Uses.allows c.args.me.now c.acquire-got.new.me got.same got.share c.requires.stays

pub release-requires-clause-may : goal.release-requires-clause-may
release-requires-clause-may g c κs within =
    let m = c.args.m.0 in
    let a = c.args.me.now in
    let x = c.alert_wait_until-outcome.result.1 in
    let y = c.f-answer.new.arg2 in
    let has = back g (goal.at.release-requires-clause-may g c).After-alert_wait_until-outcome in
    let returns : FnOnceReturnsAtMut g.F.FnOnce c.args.f x c.f-answer.result y = search rules in
    may_release g.U.Uses.fits c.args.p.now m g.U.Uses.allows g.C.Change.after (acquire_event a.number m ∷ (alert_waits a.number m c.args.c.0 has.0 ++ last_wait a.number m c.args.c.0 c.alert_wait_until-outcome.result.0)) x y a c.alert_wait_until-outcome.new.me c.requires.world has.1
    (λ s own fit. c.requires.may x y c.f-answer.result s own fit (c.alert_wait_until-outcome.ensures.tested c.in-Returned.is) returns)

pub release-requires-in-Alerted-clause-may : goal.release-requires-in-Alerted-clause-may
release-requires-in-Alerted-clause-may g c κs within =
    let m = c.args.m.0 in
    let a = c.args.me.now in
    let x = c.alert_wait_until-outcome.result.1 in
    let has = back g (goal.at.release-requires-in-Alerted-clause-may g c).After-alert_wait_until-outcome in
    may_release g.U.Uses.fits c.args.p.now m g.U.Uses.allows (λ w k t z v s. s) (acquire_event a.number m ∷ (alert_waits a.number m c.args.c.0 has.0 ++ last_wait a.number m c.args.c.0 c.alert_wait_until-outcome.result.0)) x x a c.alert_wait_until-outcome.new.me c.requires.world has.1
    (c.requires.stays x)

pub returns-in-Returned : goal.returns-in-Returned
unfolding back
returns-in-Returned g c =
    let m = c.args.m.0 in
    let w = c.args.p.now.world in
    let a = c.args.me.now in
    let d = c.alert_wait_until-outcome.new.me in
    let e = c.release.new.me in
    let x = c.alert_wait_until-outcome.result.1 in
    let y = c.f-answer.new.arg2 in
    let tested = c.alert_wait_until-outcome.ensures.tested c.in-Returned.is in
    let returns : FnOnceReturnsAtMut g.F.FnOnce c.args.f x c.f-answer.result y = search rules in
    let has = back g (goal.at.returns-in-Returned g c).After-alert_wait_until-outcome in
    let h = has.1 in
    let r = c.release.ensures in
    let es : Outcome → List Event = λ o. acquire_event a.number m ∷ (alert_waits a.number m c.args.c.0 has.0 ++ last_wait a.number m c.args.c.0 o) in
    let ran = gave g.U.Uses.fits c.args.p.now m (es c.alert_wait_until-outcome.result.0) x a d e h r.event in
    record {
      rest = r.rest;
      same = same_on a d e h.same r.same;
      event = (has.0, subst (λ (o : Outcome). Adds (es o) (release_event a.number m) a e) c.in-Returned.is ran, subst (λ (o : Outcome). AreRefused (λ x. FnReturnsAt g.T.Fn c.args.test.now x false) (all_waits o has.0)) c.in-Returned.is c.alert_wait_until-outcome.ensures.event.2.all);
      held = held_back a d e m x c.requires.lacks h.held r.held;
      alerted = λ none. absurd (cc);
      answer = (
        x,
        y,
        tested,
        returns,
        λ s own. (
          h.fits s own,
          subst (λ (n : ℕ). e.share ≡ Some (g.C.Change.after w m n x y s)) h.same.number (r.share w s x (h.same.world ∙ c.requires.world) (h.share ∙ own) h.holds),
        ),
      );
      idle = λ n s idle.
          let took = c.acquire-got.ensures.holding n s idle in
          let held = c.alert_wait_until-outcome.ensures.holding n s c.acquire-got.result took.0 in
          (x, y, tested, returns, held.1, r.idle n s x held.0);
    }

pub returns-in-Alerted : goal.returns-in-Alerted
unfolding back
returns-in-Alerted g c =
    let m = c.args.m.0 in
    let a = c.args.me.now in
    let d = c.alert_wait_until-outcome.new.me in
    let e = c.release-in-Alerted.new.me in
    let x = c.alert_wait_until-outcome.result.1 in
    let has = back g (goal.at.returns-in-Alerted g c).After-alert_wait_until-outcome in
    let h = has.1 in
    let r = c.release-in-Alerted.ensures in
    let own = c.requires.share in
    let es : Outcome → List Event = λ o. acquire_event a.number m ∷ (alert_waits a.number m c.args.c.0 has.0 ++ last_wait a.number m c.args.c.0 o) in
    let ran = gave g.U.Uses.fits c.args.p.now m (es c.alert_wait_until-outcome.result.0) x a d e h r.event in
    record {
      rest = r.rest;
      same = same_on a d e h.same r.same;
      event = (has.0, subst (λ (o : Outcome). Adds (es o) (release_event a.number m) a e) c.in-Alerted.is ran, subst (λ (o : Outcome). AreRefused (λ x. FnReturnsAt g.T.Fn c.args.test.now x false) (all_waits o has.0)) c.in-Alerted.is c.alert_wait_until-outcome.ensures.event.2.all);
      held = held_back a d e m x c.requires.lacks h.held r.held;
      alerted = λ none. r.share c.args.p.now.world own.0 x (h.same.world ∙ c.requires.world) (h.share ∙ own.1) h.holds ∙ sym own.1;
      answer = tt;
      idle = λ n s idle.
          let took = c.acquire-got.ensures.holding n s idle in
          r.idle n s x (c.alert_wait_until-outcome.ensures.holding n s c.acquire-got.result took.0).0;
    }
