use Rattle.std.proofs.Common.{sym, ◌≡◌, ℕ, [], ◌∷◌, Some, rules, subst, ◌∙◌}
use Rattle.std.specs.Fn.{FnOnceReturnsAtMut}
use Rattle.nub_rule.specs.Plays.{acquire_event}
use Rattle.nub.proofs.Holding.{held_back}
use Rattle.monitor.specs.Waits.{waits}
use Rattle.monitor.proofs.Having.{HasBack, fits_before, gave, has_on, may_release, stays_after, took}
use Rattle.monitor.proofs.locked.locked_when.Given.{Over}
use Rattle.monitor.proofs.locked.locked_when.Goals.{After-wait_until-value}
use Rattle.monitor.proofs.locked.locked_when.Goals as goal

-- the thread has the mutex with the value that the test accepted
back : (g : Over) (c : After-wait_until-value g) → (k : ℕ) × HasBack g.U.Uses.fits c.args.p.now c.args.m.0 (acquire_event c.args.me.now.number c.args.m.0 ∷ waits c.args.me.now.number c.args.m.0 c.args.c.0 k) c.wait_until-value.result c.args.me.now c.wait_until-value.new.me
back g c =
    let p = c.args.p.now in
    let m = c.args.m.0 in
    let a = c.args.me.now in
    let b = c.acquire-got.new.me in
    let d = c.wait_until-value.new.me in
    let x = c.wait_until-value.result in
    let got = c.acquire-got.ensures in
    let w = c.wait_until-value.ensures in
    let k = w.event.0 in
    let first = took g.U.Uses.fits p m (λ (n : ℕ). acquire_event n m) c.acquire-got.result a b c.requires.world got.rest got.same got.event got.holds got.held got.share got.fits in
    let then : HasBack g.U.Uses.fits p m (waits b.number m c.args.c.0 k) x b d = record { rest = w.rest; same = w.same; events = w.event.1; holds = w.holds; held = w.held; share = w.share; fits = w.fits } in
    let both = has_on g.U.Uses.fits p m (acquire_event a.number m ∷ []) (waits b.number m c.args.c.0 k) c.acquire-got.result x a b d first then in
    (k, subst (λ (n : ℕ). HasBack g.U.Uses.fits p m (acquire_event a.number m ∷ waits n m c.args.c.0 k) x a d) got.same.number both)

pub wait_until-value-requires-clause-share : goal.wait_until-value-requires-clause-share
wait_until-value-requires-clause-share g c κs within = (c.requires.share.0, c.acquire-got.ensures.share ∙ c.requires.share.1)

pub wait_until-value-requires-clause-fits : goal.wait_until-value-requires-clause-fits
wait_until-value-requires-clause-fits g c κs within = λ s own.
    let got = c.acquire-got.ensures in
    subst (λ (n : ℕ). g.U.Uses.fits c.args.p.now.world c.args.m.0 c.acquire-got.result n s) (sym got.same.number) (got.fits c.args.p.now.world s c.requires.world (sym got.share ∙ own))

pub wait_until-value-requires-clause-testable : goal.wait_until-value-requires-clause-testable
wait_until-value-requires-clause-testable g c κs within = λ x fit.
    let got = c.acquire-got.ensures in
    c.requires.testable x (fits_before g.U.Uses.fits c.args.p.now c.args.m.0 x.now c.args.me.now c.acquire-got.new.me got.same got.share fit)

pub wait_until-value-requires-clause-stays : goal.wait_until-value-requires-clause-stays
wait_until-value-requires-clause-stays g c κs within =
    let got = c.acquire-got.ensures in
    stays_after g.U.Uses.fits c.args.p.now c.args.m.0 g.U.Uses.allows c.args.me.now c.acquire-got.new.me got.same got.share c.requires.stays

pub release-requires-clause-may : goal.release-requires-clause-may
release-requires-clause-may g c κs within =
    let m = c.args.m.0 in
    let a = c.args.me.now in
    let x = c.wait_until-value.result in
    let y = c.f-answer.new.arg2 in
    let has = back g (goal.at.release-requires-clause-may g c).After-wait_until-value in
    let returns : FnOnceReturnsAtMut g.F.FnOnce c.args.f x c.f-answer.result y = search rules in
    may_release g.U.Uses.fits c.args.p.now m g.U.Uses.allows g.C.Change.after (acquire_event a.number m ∷ waits a.number m c.args.c.0 has.0) x y a c.wait_until-value.new.me c.requires.world has.1
    (λ s own fit. c.requires.may x y c.f-answer.result s own fit c.wait_until-value.ensures.tested returns)

pub returns-clause-event : goal.returns-clause-event
unfolding back
returns-clause-event g c =
    let m = c.args.m.0 in
    let a = c.args.me.now in
    let has = back g (goal.at.returns-clause-event g c).After-wait_until-value in
    (has.0, gave g.U.Uses.fits c.args.p.now m (acquire_event a.number m ∷ waits a.number m c.args.c.0 has.0) c.wait_until-value.result a c.wait_until-value.new.me c.release.new.me has.1 c.release.ensures.event, c.wait_until-value.ensures.event.2.all)

pub returns-clause-held : goal.returns-clause-held
returns-clause-held g c =
    let has = back g (goal.at.returns-clause-held g c).After-wait_until-value in
    held_back c.args.me.now c.wait_until-value.new.me c.release.new.me c.args.m.0 c.wait_until-value.result c.requires.lacks has.1.held c.release.ensures.held

pub returns-clause-answer : goal.returns-clause-answer
returns-clause-answer g c =
    let m = c.args.m.0 in
    let w = c.args.p.now.world in
    let x = c.wait_until-value.result in
    let y = c.f-answer.new.arg2 in
    let has = (back g (goal.at.returns-clause-answer g c).After-wait_until-value).1 in
    let returns : FnOnceReturnsAtMut g.F.FnOnce c.args.f x c.f-answer.result y = search rules in (
      x,
      y,
      c.wait_until-value.ensures.tested,
      returns,
      λ s own. (
        has.fits s own,
        subst (λ (n : ℕ). c.release.new.me.share ≡ Some (g.C.Change.after w m n x y s)) has.same.number (c.release.ensures.share w s x (has.same.world ∙ c.requires.world) (has.share ∙ own) has.holds),
      ),
    )

pub returns-clause-idle : goal.returns-clause-idle
returns-clause-idle g c = λ n s idle.
    let x = c.wait_until-value.result in
    let y = c.f-answer.new.arg2 in
    let took = c.acquire-got.ensures.holding n s idle in
    let has = c.wait_until-value.ensures.holding n s c.acquire-got.result took.0 in
    let returns : FnOnceReturnsAtMut g.F.FnOnce c.args.f x c.f-answer.result y = search rules in
    (x, y, c.wait_until-value.ensures.tested, returns, has.1, c.release.ensures.idle n s x has.0)
