use Rattle.std.proofs.Common.{ℕ, false, rules, arith, sym, subst, ◌∙◌}
use Rattle.monitor.specs.Waits.{AreRefused, waits}
use Rattle.nub_rule.specs.Plays.{release_event}
use Rattle.nub.specs.Rest.{Added}
use Rattle.nub.proofs.Adding.{added, added_on}
use Rattle.test_turns.specs.Turns.{Wakes, ends_turn}
use Rattle.nub.specs.Holding.{IsHolding}
use Rattle.nub.specs.Idle.{IsIdle}
use Rattle.nub.proofs.Holding.{fits_any}
use Rattle.sum_uses.specs.Sums.{IsAbove, grown}
use Rattle.sum_uses.proofs.Adding.{adding_grows, staying_grows}
use Rattle.test_turns.proofs.Refusals.{refused_so}
use Rattle.test_turns.proofs.turns.take_turn.Given.{Over}
use Rattle.test_turns.proofs.turns.take_turn.Goals.{After-acquire-got, After-wait_until-value}
use Rattle.test_turns.proofs.turns.take_turn.Goals as goal

-- the thread has the mutex
got : (g : Over) (c : After-acquire-got g) → IsHolding c.args.p.now c.requires.idle.0 c.args.turn.mutex.0 c.requires.idle.1 c.acquire-got.result c.acquire-got.new.me × IsAbove c.args.turn.mutex.0 c.acquire-got.result c.requires.idle.1
got g c = c.acquire-got.ensures.holding c.requires.idle.0 c.requires.idle.1 c.requires.idle.2

-- it has it with the value that the test accepted
has : (g : Over) (c : After-wait_until-value g) → IsHolding c.args.p.now c.requires.idle.0 c.args.turn.mutex.0 c.requires.idle.1 c.wait_until-value.result c.wait_until-value.new.me × IsAbove c.args.turn.mutex.0 c.wait_until-value.result c.requires.idle.1
has g c = let i = c.requires.idle in c.wait_until-value.ensures.holding i.0 i.1 c.acquire-got.result (c.acquire-got.ensures.holding i.0 i.1 i.2).0

pub wait_until-value-requires-clause-world : goal.wait_until-value-requires-clause-world
wait_until-value-requires-clause-world g c κs within = (got g (goal.at.wait_until-value-requires-clause-world g c).After-acquire-got).0.world

pub wait_until-value-requires-clause-share : goal.wait_until-value-requires-clause-share
wait_until-value-requires-clause-share g c κs within = (c.requires.idle.1, (got g (goal.at.wait_until-value-requires-clause-share g c).After-acquire-got).0.share)

pub wait_until-value-requires-clause-fits : goal.wait_until-value-requires-clause-fits
wait_until-value-requires-clause-fits g c κs within = λ s own.
    let h = got g (goal.at.wait_until-value-requires-clause-fits g c).After-acquire-got in
    fits_any (λ w m x t s. IsAbove m x s) c.args.p.now c.requires.idle.0 c.args.turn.mutex.0 c.requires.idle.1 c.acquire-got.result c.acquire-got.result c.acquire-got.new.me h.0 h.1 s own

pub wait_until-value-requires-clause-stays : goal.wait_until-value-requires-clause-stays
wait_until-value-requires-clause-stays g c κs within = λ x s own fit.
    let few = c.requires.few s (sym c.acquire-got.ensures.share ∙ own) in
    staying_grows c.args.turn.mutex.0 x s (omega arith)

pub add_to-next-requires-clause-got : goal.add_to-next-requires-clause-got
add_to-next-requires-clause-got g c = (has g (goal.at.add_to-next-requires-clause-got g c).After-wait_until-value).1.small

pub end_turn-requires-clause-holding : goal.end_turn-requires-clause-holding
end_turn-requires-clause-holding g c =
    let i = c.requires.idle in
    let few = c.requires.few i.1 i.2.share in
    let next = c.add_to-next.ensures.sum in (
      i.0,
      i.1,
      c.wait_until-value.result,
      (has g (goal.at.end_turn-requires-clause-holding g c).After-wait_until-value).0,
      adding_grows c.args.turn.mutex.0 c.wait_until-value.result c.add_to-next.result i.1 (omega arith) (omega arith),
    )

pub returns-clause-part : goal.returns-clause-part
returns-clause-part g c =
    let m = c.args.turn.mutex.0 in
    let own = c.acquire-got.ensures.same.number in
    let number = c.wait_until-value.ensures.same.number ∙ own in
    let event = c.wait_until-value.ensures.event in
    let woke = c.end_turn.ensures.woke in
    let waited = subst (λ (n : ℕ). Added (waits n m c.args.turn.cond.0 event.0) c.acquire-got.new.me c.wait_until-value.new.me) own event.1 in
    let ended = subst (λ (n : ℕ). Wakes c.part-whom.result n woke.0 × Added (ends_turn c.args.turn.after (release_event n m) woke.0) c.wait_until-value.new.me c.end_turn.new.me) number (woke.1, woke.2) in
    let refused : AreRefused (λ (x : ℕ). g.F.Fn.post c.args.may_go.now (x, tt) false) event.0 = refused_so _ _ _ (λ x h. search rules) event.2.all in (
      c.part-whom.result,
      c.part-whom.ensures,
      (event.0, woke.0, ended.0, added_on _ _ _ _ _ (added _ _ _ _ c.acquire-got.ensures.event) (added_on _ _ _ _ _ waited ended.1), refused),
    )

pub returns-clause-goes : goal.returns-clause-goes
returns-clause-goes g c = search rules

pub returns-clause-idle : goal.returns-clause-idle
returns-clause-idle g c = λ n s idle.
    let m = c.args.turn.mutex.0 in
    let x = c.wait_until-value.result in
    let held = c.wait_until-value.ensures.holding n s c.acquire-got.result (c.acquire-got.ensures.holding n s idle).0 in
    subst (λ (k : ℕ). IsIdle c.args.p.now n (grown m x k s) c.end_turn.new.me) c.add_to-next.ensures.sum (c.end_turn.ensures.idle n s x held.0)
