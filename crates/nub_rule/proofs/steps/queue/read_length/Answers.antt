use Rattle.std.proofs.Common.{arith, ◌∙◌, ◌∷◌, ℕ, ap, refl}
use mathlib.Core.Logic.{dite}
use native.Mathlib.Decide.{ℕ_discrete}
use Rattle.larch_actions.specs.Sets.{mem, without}
use Rattle.nub_rule.specs.Objects.{object_of}
use Rattle.nub_rule.proofs.Naming.{object_low}
use Rattle.nub_rule.proofs.AtHand.{noted, fit_noted}
use Rattle.nub_rule.proofs.Penning.{either_way as both}
use Rattle.nub_rule.proofs.QueueSteps.{read_length_keeps}
use Rattle.nub_rule.proofs.steps.queue.read_length.Goals as goal

pub load-requires-clause-inside : goal.load-requires-clause-inside
load-requires-clause-inside g c κs within = let low = object_low _ _ _ _ c.p.view_is c.p.invariant.laid_out c.p.invariant.lawful c.args.at c.requires.named in let word = c.length_word.ensures in omega arith

pub load-requires-clause-allowed : goal.load-requires-clause-allowed
load-requires-clause-allowed g c κs within = let low = object_low _ _ _ _ c.p.view_is c.p.invariant.laid_out c.p.invariant.lawful c.args.at c.requires.named in let word = c.length_word.ensures in
    read_length_keeps _ _ _ _ _ _ _ (object_of c.args.at) c.me.inside.seat.me _ word (omega arith) c.me.invariant.member

pub invariant_of-me : goal.invariant_of-me
invariant_of-me g c = let o : ℕ = object_of c.args.at in let i = c.me.invariant in let u = c.load.ensures.2 o c.length_word.ensures in dite (ℕ_discrete c.load.result 0)
    (λ hit. fit_noted _ _ c.me.inside.number c.me.inside.hand c.me.inside.seat.me _ _ c.load.ensures.0 (u.0 hit) i refl refl refl refl refl)
    (λ miss. both (mem o c.me.inside.seat.me.0.part.cleared)
    (λ there. fit_noted _ _ c.me.inside.number c.me.inside.hand c.me.inside.seat.me _ _ c.load.ensures.0 (u.1 miss there) i refl refl refl refl refl)
    (λ away. fit_noted _ _ c.me.inside.number c.me.inside.hand c.me.inside.seat.me _ _ c.load.ensures.0 (u.2 miss away) i refl refl refl refl refl))

pub returns-clause-empty : goal.returns-clause-empty
returns-clause-empty g c = let o : ℕ = object_of c.args.at in
    λ hit. noted (λ _ p. record p { cleared = without o p.cleared; looked = without o p.looked }) _ _ _ _ _ c.me.inside.seat.me _ _ c.me.view_is c.load.ensures.0 ((c.load.ensures.2 o c.length_word.ensures).0 hit)

pub returns-clause-seen : goal.returns-clause-seen
returns-clause-seen g c = let o : ℕ = object_of c.args.at in
    λ miss there. noted (λ _ p. record p { looked = o ∷ p.looked }) _ _ _ _ _ c.me.inside.seat.me _ _ c.me.view_is c.load.ensures.0 ((c.load.ensures.2 o c.length_word.ensures).1 miss (ap (λ k. mem o k.cleared) c.me.view_is ∙ there))

pub returns-clause-same : goal.returns-clause-same
returns-clause-same g c = let o : ℕ = object_of c.args.at in
    λ miss away. noted (λ _ p. p) _ _ _ _ _ c.me.inside.seat.me _ _ c.me.view_is c.load.ensures.0 ((c.load.ensures.2 o c.length_word.ensures).2 miss (ap (λ k. mem o k.cleared) c.me.view_is ∙ away))
