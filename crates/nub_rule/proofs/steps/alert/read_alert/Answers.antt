use Rattle.std.proofs.Common.{ℕ, ◌<◌, subst, sym, arith, ◌∙◌, ap, refl, true}
use mathlib.Core.Logic.{dite}
use native.Mathlib.Decide.{ℕ_discrete}
use Rattle.nub_rule.specs.Parts.{alerted_stand}
use Rattle.nub_rule.specs.Places.{alert_at, most_threads}
use Rattle.nub_rule.proofs.Handling.{hands-same}
use Rattle.nub_rule.proofs.AtHand.{noted}
use Rattle.nub_rule.proofs.Seen.{fit_still}
use Rattle.nub_rule.proofs.AlertSteps.{read_alert_keeps, no-stand-before}
use Rattle.nub_rule.proofs.steps.alert.read_alert.Goals as goal

pub load-requires-clause-inside : goal.load-requires-clause-inside
load-requires-clause-inside g c κs within = let low = c.me.invariant.few in let e = c.alert_word.ensures in omega arith

pub load-requires-clause-allowed : goal.load-requires-clause-allowed
load-requires-clause-allowed g c κs within = let i = c.me.invariant in
    read_alert_keeps _ _ _ _ _ _ _ _ c.me.inside.seat.me (c.alert_word.ensures ∙ ap alert_at (sym i.numbered)) (subst (λ (k : ℕ). k < most_threads) (sym i.numbered) i.few) i.member

pub invariant_of-me : goal.invariant_of-me
invariant_of-me g c = let i = c.me.invariant in let h = i.hands in dite (ℕ_discrete c.load.result 0)
    (λ hit. fit_still _ _ c.me.inside.number c.me.inside.hand c.me.inside.seat.me _ c.me.inside.seat.me.0.part c.load.ensures.0 (c.load.ensures.2.1 hit) i refl h)
    (λ miss. fit_still _ _ c.me.inside.number c.me.inside.hand c.me.inside.seat.me _ _ c.load.ensures.0 ((c.load.ensures.2.2 miss).1) i refl (hands-same c.me.inside.seat.me.0.part _ c.me.inside.seat.me.1 _ (λ k. refl) refl refl refl (λ o is out. h.room o is (no-stand-before _ out)) h.settled h))

pub returns-clause-one : goal.returns-clause-one
returns-clause-one g c = λ miss. (c.load.ensures.2.2 miss).0

pub returns-clause-seen : goal.returns-clause-seen
returns-clause-seen g c = λ saw. c.load.ensures.2.0 (ap (λ k. k.alerted) c.me.view_is ∙ saw)

pub returns-clause-none : goal.returns-clause-none
returns-clause-none g c = λ hit. noted (λ _ p. p) _ _ _ _ _ c.me.inside.seat.me _ _ c.me.view_is c.load.ensures.0 (c.load.ensures.2.1 hit)

pub returns-clause-alerted : goal.returns-clause-alerted
returns-clause-alerted g c = λ miss. noted (λ _ p. record p { alerted = true; stand = alerted_stand p.stand }) _ _ _ _ _ c.me.inside.seat.me _ _ c.me.view_is c.load.ensures.0 ((c.load.ensures.2.2 miss).1)
