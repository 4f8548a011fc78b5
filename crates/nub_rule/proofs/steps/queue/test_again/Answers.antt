use Rattle.std.proofs.Common.{arith, ◌∙◌, ap, sym, refl}
use mathlib.Core.Logic.{dite}
use native.Mathlib.Decide.{ℕ_discrete}
use Rattle.nub_rule.specs.declared.view.Stage.TheVariants.{Clear, Tested}
use Rattle.nub_rule.specs.Parts.{staged}
use Rattle.nub_rule.specs.Places.{bit_at}
use Rattle.nub_rule.proofs.Naming.{gate_low, object_low, staged_none}
use Rattle.nub_rule.proofs.Handling.{hands-same}
use Rattle.nub_rule.proofs.AtHand.{noted}
use Rattle.nub_rule.proofs.Seen.{fit_still}
use Rattle.nub_rule.proofs.ReadySteps.{test_again_keeps}
use Rattle.nub_rule.proofs.steps.queue.test_again.Goals as goal

pub load-requires-clause-inside : goal.load-requires-clause-inside
load-requires-clause-inside g c κs within = let low = object_low _ _ _ _ c.p.view_is c.p.invariant.laid_out c.p.invariant.lawful c.args.at c.requires.named in let word = c.bit_word.ensures in omega arith

pub load-requires-clause-allowed : goal.load-requires-clause-allowed
load-requires-clause-allowed g c κs within = let low = object_low _ _ _ _ c.p.view_is c.p.invariant.laid_out c.p.invariant.lawful c.args.at c.requires.named in let t = c.requires.untested in let word = c.bit_word.ensures in test_again_keeps _ _ _ _ _ _ _ _ c.me.inside.seat.me t.0 Clear Tested c.me.invariant.member (ap (λ k. k.stand) c.me.view_is ∙ t.1) (word ∙ ap bit_at (sym t.2.0)) tt (λ f. f) (λ f. f) (λ f. f) (λ f. f)

pub invariant_of-me : goal.invariant_of-me
invariant_of-me g c = let i = c.me.invariant in let h = i.hands in let t = c.requires.untested in let stood = ap (λ k. k.stand) c.me.view_is ∙ t.1 in let word = c.bit_word.ensures ∙ ap bit_at (sym t.2.0) in let u = c.load.ensures.2 t.0 stood word in dite (ℕ_discrete c.load.result 0)
    (λ hit. fit_still _ _ c.me.inside.number c.me.inside.hand c.me.inside.seat.me _ _ c.load.ensures.0 (u.0 hit) i refl (hands-same c.me.inside.seat.me.0.part _ c.me.inside.seat.me.1 _ (λ k. refl) refl refl refl (λ k there nowhere. h.room k there (staged_none Clear _ nowhere)) h.settled h))
    (λ miss. fit_still _ _ c.me.inside.number c.me.inside.hand c.me.inside.seat.me _ _ c.load.ensures.0 (u.1 miss) i refl (hands-same c.me.inside.seat.me.0.part _ c.me.inside.seat.me.1 _ (λ k. refl) refl refl refl (λ k there nowhere. h.room k there (staged_none Tested _ nowhere)) h.settled h))

pub returns-clause-clear : goal.returns-clause-clear
returns-clause-clear g c = λ hit. let t = c.requires.untested in let stood = ap (λ k. k.stand) c.me.view_is ∙ t.1 in let word = c.bit_word.ensures ∙ ap bit_at (sym t.2.0) in let u = c.load.ensures.2 t.0 stood word in noted (λ _ p. record p { stand = staged Clear p.stand }) _ _ _ _ _ c.me.inside.seat.me _ _ c.me.view_is c.load.ensures.0 (u.0 hit)

pub returns-clause-low : goal.returns-clause-low
returns-clause-low g c = λ gate. gate_low _ _ _ _ c.p.view_is c.p.invariant.laid_out c.p.invariant.lawful c.args.at gate c.requires.named

pub returns-clause-tested : goal.returns-clause-tested
returns-clause-tested g c = λ miss. let t = c.requires.untested in let stood = ap (λ k. k.stand) c.me.view_is ∙ t.1 in let word = c.bit_word.ensures ∙ ap bit_at (sym t.2.0) in let u = c.load.ensures.2 t.0 stood word in noted (λ _ p. record p { stand = staged Tested p.stand }) _ _ _ _ _ c.me.inside.seat.me _ _ c.me.view_is c.load.ensures.0 (u.1 miss)
