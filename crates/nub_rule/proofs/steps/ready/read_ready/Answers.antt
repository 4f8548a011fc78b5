use Rattle.std.proofs.Common.{sym, arith, ◌≡◌, ◌∙◌, ap, refl, None}
use mathlib.Core.Logic.{dite}
use native.Mathlib.Decide.{ℕ_discrete}
use Rattle.nub_rule.specs.declared.view.Stage.TheVariants.{Asleep, Found}
use Rattle.nub_rule.specs.Parts.{staged}
use Rattle.nub_rule.specs.Places.{ready_at}
use Rattle.nub_rule.proofs.Naming.{some_or_none}
use Rattle.nub_rule.proofs.Handling.{hands-same}
use Rattle.nub_rule.proofs.AtHand.{noted}
use Rattle.nub_rule.proofs.Seen.{fit_still}
use Rattle.nub_rule.proofs.ReadySteps.{read_ready_keeps}
use Rattle.nub_rule.proofs.steps.ready.read_ready.Goals as goal

pub load-requires-clause-inside : goal.load-requires-clause-inside
load-requires-clause-inside g c κs within = let low = c.me.invariant.few in let e = c.ready_word.ensures in omega arith

pub load-requires-clause-allowed : goal.load-requires-clause-allowed
load-requires-clause-allowed g c κs within = let i = c.me.invariant in let t = c.requires.tested in read_ready_keeps _ _ _ _ _ _ _ _ c.me.inside.seat.me t.0 (c.ready_word.ensures ∙ ap ready_at (sym i.numbered)) i.member (ap (λ k. k.stand) c.me.view_is ∙ t.1) t.2 (ap (λ k. k.cleared) c.me.view_is ∙ c.requires.looked)

pub invariant_of-me : goal.invariant_of-me
invariant_of-me g c = let i = c.me.invariant in let h = i.hands in let out : c.me.inside.seat.me.0.part.spin ≡ None = ap (λ k. k.spin) c.me.view_is ∙ c.requires.outside in dite (ℕ_discrete c.load.result 0)
    (λ hit. fit_still _ _ c.me.inside.number c.me.inside.hand c.me.inside.seat.me _ _ c.load.ensures.0 (c.load.ensures.2.0 hit) i refl (hands-same c.me.inside.seat.me.0.part _ c.me.inside.seat.me.1 _ (λ k. refl) refl refl refl (λ o is. absurd (some_or_none _ o out is)) h.settled h))
    (λ miss. fit_still _ _ c.me.inside.number c.me.inside.hand c.me.inside.seat.me _ _ c.load.ensures.0 ((c.load.ensures.2.1 miss).1) i refl (hands-same c.me.inside.seat.me.0.part _ c.me.inside.seat.me.1 _ (λ k. refl) refl refl refl (λ o is. absurd (some_or_none _ o out is)) h.settled h))

pub returns-clause-asleep : goal.returns-clause-asleep
returns-clause-asleep g c = λ hit. noted (λ _ p. record p { stand = staged Asleep p.stand }) _ _ _ _ _ c.me.inside.seat.me _ _ c.me.view_is c.load.ensures.0 (c.load.ensures.2.0 hit)

pub returns-clause-found : goal.returns-clause-found
returns-clause-found g c = λ miss. noted (λ _ p. record p { stand = staged Found p.stand }) _ _ _ _ _ c.me.inside.seat.me _ _ c.me.view_is c.load.ensures.0 ((c.load.ensures.2.1 miss).1)

pub returns-clause-one : goal.returns-clause-one
returns-clause-one g c = λ miss. (c.load.ensures.2.1 miss).0
