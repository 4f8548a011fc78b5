use Rattle.std.proofs.Common.{ℕ, zero, suc, false, List, [], ◌∷◌, subst, ap, ◌∙◌, ◌++◌}
use Rattle.std.specs.Fn.{FnReturnsAt}
use Rattle.std.proofs.lemmas.Fn.{says_at}
use Rattle.larch_actions.specs.declared.event.Event.{Event}
use Rattle.nub_rule.specs.Plays.{enqueue_event}
use Rattle.condition.specs.Waits.{resume_event}
use Rattle.monitor.specs.Waits.{waits}
use Rattle.monitor.proofs.Having.{HasBack, has_on, has_yet, holds_again, may_release, none_refused, one_refused, waited, waits_more}
use Rattle.monitor.proofs.wait.wait_until.Goals as goal

pub loop-init : goal.loop-init
loop-init g c = (zero, has_yet g.U.Uses.fits c.args.p.now c.args.m.0 c.args.got c.args.me.now c.requires.rest c.requires.holds c.requires.fits, none_refused (λ x. FnReturnsAt g.T.Fn c.args.test.now x false) c.args.got)

pub wait-value-requires-clause-rest : goal.wait-value-requires-clause-rest
wait-value-requires-clause-rest g c κs within = c.loop.invariant.1.rest

pub wait-value-requires-clause-may : goal.wait-value-requires-clause-may
wait-value-requires-clause-may g c κs within =
    let inv = c.loop.invariant in
    may_release g.U.Uses.fits c.args.p.now c.args.m.0 g.U.Uses.allows (λ w k t z v s. s) (waits c.args.me.now.number c.args.m.0 c.args.c.0 inv.0) c.loop.value c.loop.value c.args.me.now c.loop.me c.requires.world inv.1 (c.requires.stays c.loop.value)

pub loop-preserved : goal.loop-preserved
loop-preserved g c =
    let inv = c.loop.invariant in
    let p = c.args.p.now in
    let m = c.args.m.0 in
    let d = c.args.c.0 in
    let a = c.args.me.now in
    let b = c.loop.me in
    let e = c.wait-value.new.me in
    let t = a.number in
    let w = c.wait-value.ensures in
    let own = c.requires.share in
    let same = inv.1.same in
    let once = waited g.U.Uses.fits p m (λ (n : ℕ). enqueue_event false n m d ∷ []) (λ (n : ℕ). resume_event n m d) own.0 c.loop.value c.wait-value.result b e (same.world ∙ c.requires.world) (inv.1.share ∙ own.1)
    inv.1.holds w.rest w.same w.event w.holds w.held w.share w.fits in
    let both = has_on g.U.Uses.fits p m (waits t m d inv.0) (enqueue_event false b.number m d ∷ resume_event b.number m d ∷ []) c.loop.value c.wait-value.result a b e inv.1 once in
    let by : ℕ → List Event = λ n. enqueue_event false n m d ∷ resume_event n m d ∷ [] in
    let refused = says_at g.T.Fn c.test.ensures c.if-test.false in (
      suc inv.0,
      subst (λ (l : List Event). HasBack g.U.Uses.fits p m l c.wait-value.result a e) (ap (λ n. waits t m d inv.0 ++ by n) same.number ∙ waits_more t m d inv.0) both,
      one_refused (λ x. FnReturnsAt g.T.Fn c.args.test.now x false) c.args.got inv.0 c.loop.value c.wait-value.result inv.2 refused,
    )

pub returns-then-test-clause-rest : goal.returns-then-test-clause-rest
returns-then-test-clause-rest g c = c.loop.invariant.1.rest

pub returns-then-test-clause-same : goal.returns-then-test-clause-same
returns-then-test-clause-same g c = c.loop.invariant.1.same

pub returns-then-test-clause-event : goal.returns-then-test-clause-event
returns-then-test-clause-event g c = (c.loop.invariant.0, c.loop.invariant.1.events, c.loop.invariant.2)

pub returns-then-test-clause-holds : goal.returns-then-test-clause-holds
returns-then-test-clause-holds g c = c.loop.invariant.1.holds

pub returns-then-test-clause-held : goal.returns-then-test-clause-held
returns-then-test-clause-held g c = c.loop.invariant.1.held

pub returns-then-test-clause-share : goal.returns-then-test-clause-share
returns-then-test-clause-share g c = c.loop.invariant.1.share

pub returns-then-test-clause-fits : goal.returns-then-test-clause-fits
returns-then-test-clause-fits g c = c.loop.invariant.1.fits

pub returns-then-test-clause-holding : goal.returns-then-test-clause-holding
returns-then-test-clause-holding g c = λ n s x i.
    let inv = c.loop.invariant in
    holds_again g.U.Uses.fits c.args.p.now c.args.m.0 (waits c.args.me.now.number c.args.m.0 c.args.c.0 inv.0) n s x c.loop.value c.args.me.now c.loop.me i inv.1

pub returns-then-test-clause-tested : goal.returns-then-test-clause-tested
returns-then-test-clause-tested g c = says_at g.T.Fn c.test.ensures c.if-test.true
