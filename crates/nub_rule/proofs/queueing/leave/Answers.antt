use Rattle.std.proofs.Common.{arith, ◌∙◌, ℕ, ap, sym, subst, refl, Some}
use Rattle.nub_rule.specs.declared.rule.Slot.TheVariants.{Queue}
use Rattle.nub_rule.specs.Items.{queue_of}
use Rattle.larch_actions.specs.Layout.{IsLawful}
use Rattle.nub_rule.specs.Places.{length_at}
use Rattle.larch_actions.specs.Sets.{mem}
use Rattle.nub_rule.proofs.Lines.{false_true}
use Rattle.nub_rule.proofs.Handling.{same_slot}
use Rattle.nub_rule.proofs.AtHand.{QueueAtHand, queue_at_hand, requeued, requeued_seen}
use Rattle.nub_rule.proofs.Requeueing.{leave_shown, may_write, written}
use Rattle.nub_rule.proofs.queueing.leave.Given.{Over}
use Rattle.nub_rule.proofs.queueing.leave.Goals.{After-bring}
use Rattle.nub_rule.proofs.queueing.leave.Goals as goal

-- the queue stands first in the hand
at_hand : (g : Over) (c : After-bring g) → QueueAtHand c.me.inside.seat.me c.bring.new.seat.me c.bring.new.hand c.number-o.result
at_hand g c = let b = c.bring.ensures in
    queue_at_hand _ _ _ _ _ _ _ c.me.invariant (ap (λ k. k.spin) c.me.view_is ∙ (c.requires.inside ∙ ap (λ (z : ℕ). Some z) (sym c.number-o.ensures))) b.same.2 b.keys b.distinct b.below b.hand b.first

pub bring-requires-clause-there : goal.bring-requires-clause-there
bring-requires-clause-there g c = (Queue (queue_of c.me.inside.seat.me.0.part.queue), c.me.invariant.hands.queue_in c.number-o.result (ap (λ k. k.spin) c.me.view_is ∙ (c.requires.inside ∙ ap (λ (z : ℕ). Some z) (sym c.number-o.ensures))))

pub slot_mut-requires-clause-first : goal.slot_mut-requires-clause-first
slot_mut-requires-clause-first g c = (Queue (queue_of c.me.inside.seat.me.0.part.queue), (at_hand g (goal.at.slot_mut-requires-clause-first g c).After-bring).first)

pub leave_slot-requires : goal.leave_slot-requires
leave_slot-requires g c = let a = at_hand g (goal.at.leave_slot-requires g c).After-bring in (c.me.inside.seat.me.0.part.queue, same_slot c.number-o.result _ _ _ _ c.slot_mut.ensures.value a.first)

pub store-requires-clause-inside : goal.store-requires-clause-inside
store-requires-clause-inside g c κs within = let low = (at_hand g (goal.at.store-requires-clause-inside g c).After-bring).far in let is = c.number-o.ensures in let word = c.length_word.ensures in omega arith

pub store-requires-clause-allowed : goal.store-requires-clause-allowed
store-requires-clause-allowed g c κs within = let a = at_hand g (goal.at.store-requires-clause-allowed g c).After-bring in let line = c.leave_slot.ensures.out c.me.inside.seat.me.0.part.queue c.in-Some.length (same_slot c.number-o.result _ _ _ _ c.slot_mut.ensures.value a.first) c.in-Some.is in
    may_write (leave_shown c.me.inside.seat.me c.p.view_is c.me.view_is c.number-o.ensures c.requires.may line.0) _ _ c.bring.new.seat.me _ _ _ _ _ c.me.invariant a (subst IsLawful (sym c.p.invariant.laid_out) c.p.invariant.lawful) (c.length_word.ensures ∙ ap length_at (sym c.number-o.ensures)) line.2

-- it wasn't there, and no step was made
pub invariant_of-me : goal.invariant_of-me
invariant_of-me g c = let a = at_hand g (goal.at.invariant_of-me g c).After-bring in let s = same_slot c.number-o.result _ _ _ _ c.slot_mut.ensures.value a.first in
    (requeued (λ _ p. p) c.me.inside.seat.me.0.part.queue _ _ _ _ _ _ _ _ (c.bring.new.seat.me.0, _) _ c.me.invariant a c.bring.ensures.same.0 ((c.leave_slot.ensures.none c.me.inside.seat.me.0.part.queue s c.in_default.is).1 ∙ s) refl refl refl refl (c.me.invariant.hands.room c.number-o.result a.spins)).fits

pub returns-in_default-clause-same : goal.returns-in_default-clause-same
returns-in_default-clause-same g c = let a = at_hand g (goal.at.returns-in_default-clause-same g c).After-bring in let s = same_slot c.number-o.result _ _ _ _ c.slot_mut.ensures.value a.first in
    λ _. (requeued (λ _ p. p) c.me.inside.seat.me.0.part.queue _ _ _ _ _ _ _ _ (c.bring.new.seat.me.0, _) _ c.me.invariant a c.bring.ensures.same.0 ((c.leave_slot.ensures.none c.me.inside.seat.me.0.part.queue s c.in_default.is).1 ∙ s) refl refl refl refl (c.me.invariant.hands.room c.number-o.result a.spins)).sees _ _ _ _ c.me.view_is

pub invariant_of-me-2 : goal.invariant_of-me-2
invariant_of-me-2 g c = let a = at_hand g (goal.at.invariant_of-me-2 g c).After-bring in let line = c.leave_slot.ensures.out c.me.inside.seat.me.0.part.queue c.in-Some.length (same_slot c.number-o.result _ _ _ _ c.slot_mut.ensures.value a.first) c.in-Some.is in
    (written (leave_shown c.me.inside.seat.me c.p.view_is c.me.view_is c.number-o.ensures c.requires.may line.0) _ _ _ _ c.bring.new.seat.me _ _ _ c.me.invariant a (c.store.ensures.0 ∙ c.bring.ensures.same.0) line.1 c.store.ensures.2 (c.length_word.ensures ∙ ap length_at (sym c.number-o.ensures)) (λ _. let low = line.3 in let long = line.2 in omega arith)).fits

pub returns-clause-there : goal.returns-clause-there
returns-clause-there g c = let a = at_hand g (goal.at.returns-clause-there g c).After-bring in let line = c.leave_slot.ensures.out c.me.inside.seat.me.0.part.queue c.in-Some.length (same_slot c.number-o.result _ _ _ _ c.slot_mut.ensures.value a.first) c.in-Some.is in
    sym line.0 ∙ (λ j. mem (ap (λ k. k.number) c.me.view_is j) (ap (λ k. k.queue) c.me.view_is j))

pub returns-clause-out : goal.returns-clause-out
returns-clause-out g c = let a = at_hand g (goal.at.returns-clause-out g c).After-bring in let line = c.leave_slot.ensures.out c.me.inside.seat.me.0.part.queue c.in-Some.length (same_slot c.number-o.result _ _ _ _ c.slot_mut.ensures.value a.first) c.in-Some.is in
    λ _ f records. requeued_seen f _ _ _ _ _ _ _ _ c.bring.new.seat.me _ _ c.me.invariant a (c.store.ensures.0 ∙ c.bring.ensures.same.0) line.1 (records _ _ _ _ c.length_word.ensures c.store.ensures.2) _ _ _ _ c.me.view_is

pub returns-in_default-clause-out : goal.returns-in_default-clause-out
returns-in_default-clause-out g c = λ e. absurd (false_true e)

pub returns-clause-same : goal.returns-clause-same
returns-clause-same g c = λ e. absurd (false_true (sym e))
