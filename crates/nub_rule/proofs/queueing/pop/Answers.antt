use Rattle.std.proofs.Common.{arith, ◌≡◌, ◌∙◌, ◌∷◌, ℕ, List, ap, sym, subst, Some}
use Rattle.nub_rule.specs.declared.rule.Slot.TheVariants.{Queue}
use Rattle.nub_rule.specs.Items.{queue_of}
use Rattle.larch_actions.specs.Layout.{IsLawful}
use Rattle.nub_rule.specs.Places.{length_at}
use Rattle.nub_rule.specs.Plays.{tail_of}
use Rattle.nub_rule.proofs.Lessening.{length-tail_of}
use Rattle.nub_rule.proofs.Handling.{same_slot}
use Rattle.nub_rule.proofs.AtHand.{QueueAtHand, queue_at_hand, requeued_seen}
use Rattle.nub_rule.proofs.Requeueing.{pop_shown, may_write, written}
use Rattle.nub_rule.proofs.queueing.pop.Given.{Over}
use Rattle.nub_rule.proofs.queueing.pop.Goals.{After-bring}
use Rattle.nub_rule.proofs.queueing.pop.Goals as goal

-- the queue stands first in the hand
at_hand : (g : Over) (c : After-bring g) → QueueAtHand c.me.inside.seat.me c.bring.new.seat.me c.bring.new.hand c.number-o.result
at_hand g c = let b = c.bring.ensures in
    queue_at_hand _ _ _ _ _ _ _ c.me.invariant (ap (λ k. k.spin) c.me.view_is ∙ (c.requires.inside ∙ ap (λ (z : ℕ). Some z) (sym c.number-o.ensures))) b.same.2 b.keys b.distinct b.below b.hand b.first

pub bring-requires-clause-there : goal.bring-requires-clause-there
bring-requires-clause-there g c = (Queue (queue_of c.me.inside.seat.me.0.part.queue), c.me.invariant.hands.queue_in c.number-o.result (ap (λ k. k.spin) c.me.view_is ∙ (c.requires.inside ∙ ap (λ (z : ℕ). Some z) (sym c.number-o.ensures))))

pub slot_mut-requires-clause-first : goal.slot_mut-requires-clause-first
slot_mut-requires-clause-first g c = (Queue (queue_of c.me.inside.seat.me.0.part.queue), (at_hand g (goal.at.slot_mut-requires-clause-first g c).After-bring).first)

pub pop_slot-first-requires : goal.pop_slot-first-requires
pop_slot-first-requires g c = let a = at_hand g (goal.at.pop_slot-first-requires g c).After-bring in (c.me.inside.seat.me.0.part.queue, same_slot c.number-o.result _ _ _ _ c.slot_mut.ensures.value a.first)

pub store-requires-clause-inside : goal.store-requires-clause-inside
store-requires-clause-inside g c κs within = let low = (at_hand g (goal.at.store-requires-clause-inside g c).After-bring).far in let is = c.number-o.ensures in let word = c.length_word.ensures in omega arith

pub store-requires-clause-allowed : goal.store-requires-clause-allowed
store-requires-clause-allowed g c κs within = let a = at_hand g (goal.at.store-requires-clause-allowed g c).After-bring in let line = c.pop_slot-first.ensures c.me.inside.seat.me.0.part.queue (same_slot c.number-o.result _ _ _ _ c.slot_mut.ensures.value a.first) in
    may_write (pop_shown c.me.inside.seat.me c.p.view_is c.me.view_is c.number-o.ensures c.requires.may) _ _ c.bring.new.seat.me _ _ _ _ _ c.me.invariant a (subst IsLawful (sym c.p.invariant.laid_out) c.p.invariant.lawful) (c.length_word.ensures ∙ ap length_at (sym c.number-o.ensures)) line.1

pub invariant_of-me : goal.invariant_of-me
invariant_of-me g c = let a = at_hand g (goal.at.invariant_of-me g c).After-bring in let line = c.pop_slot-first.ensures c.me.inside.seat.me.0.part.queue (same_slot c.number-o.result _ _ _ _ c.slot_mut.ensures.value a.first) in
    (written (pop_shown c.me.inside.seat.me c.p.view_is c.me.view_is c.number-o.ensures c.requires.may) _ _ _ _ c.bring.new.seat.me _ _ _ c.me.invariant a (c.store.ensures.0 ∙ c.bring.ensures.same.0) line.0 c.store.ensures.2 (c.length_word.ensures ∙ ap length_at (sym c.number-o.ensures))
    (λ e. let short = length-tail_of c.me.inside.seat.me.0.part.queue in let room = c.me.invariant.hands.room c.number-o.result a.spins e in omega arith)).fits

pub returns : goal.returns
returns g c = let a = at_hand g (goal.at.returns g c).After-bring in let line = c.pop_slot-first.ensures c.me.inside.seat.me.0.part.queue (same_slot c.number-o.result _ _ _ _ c.slot_mut.ensures.value a.first) in (
  λ e. ap (λ k. k.queue) (sym c.me.view_is) ∙ line.2 e,
  λ x e. subst (λ (l : List ℕ). l ≡ x.0 ∷ tail_of l) (ap (λ k. k.queue) c.me.view_is) (line.3 x e),
  λ f records. requeued_seen f _ _ _ _ _ _ _ _ c.bring.new.seat.me _ _ c.me.invariant a (c.store.ensures.0 ∙ c.bring.ensures.same.0) line.0 (records _ _ _ _ c.length_word.ensures c.store.ensures.2) _ _ _ _ c.me.view_is,
)
