use Rattle.std.proofs.Common.{Bool, rules, arith, ◌≡◌, ◌<◌, ◌+◌, ◌∙◌, ◌++◌, ℕ, ap, sym, subst, refl, vec_capacity, None}
use Rattle.larch_actions.specs.declared.event.Life.{Life}
use Rattle.nub_rule.specs.declared.rule.Slot.TheVariants.{Queue}
use Rattle.nub_rule.specs.declared.view.Pen.{Pen}
use Rattle.nub_rule.specs.Items.{Distinct, Small, queue_of}
use Rattle.nub_rule.specs.Parts.{made, MayRecord}
use Rattle.nub_rule.specs.Places.{most_threads, cond_object}
use Rattle.nub_rule.specs.Plays.{recorded, tail_of, event, signal_action}
use Rattle.nub_rule.proofs.Naming.{cond_low}
use Rattle.nub_rule.proofs.Handling.{same_slot}
use Rattle.nub_rule.proofs.AtHand.{QueueAtHand, queue_at_hand, After, requeued, recorded_after}
use Rattle.nub_rule.proofs.CondSteps.{advance_signal_keeps}
use Rattle.nub_rule.proofs.steps.cond.advance_signal.Given.{Over}
use Rattle.nub_rule.proofs.steps.cond.advance_signal.Goals.{After-bring, After-fetch_add-count}
use Rattle.nub_rule.proofs.steps.cond.advance_signal.Goals as goal

-- the queue stands first in the hand
at_hand : (g : Over) (c : After-bring g) → QueueAtHand c.me.inside.seat.me c.bring.new.seat.me c.bring.new.hand (cond_object c.args.c.0)
at_hand g c = let b = c.bring.ensures in queue_at_hand _ _ _ _ _ _ _ c.me.invariant (ap (λ k. k.spin) c.me.view_is ∙ c.requires.inside) b.same.2 b.keys b.distinct b.below b.hand b.first

pub bring-requires-clause-there : goal.bring-requires-clause-there
bring-requires-clause-there g c = (Queue (queue_of c.me.inside.seat.me.0.part.queue), c.me.invariant.hands.queue_in (cond_object c.args.c.0) (ap (λ k. k.spin) c.me.view_is ∙ c.requires.inside))

pub slot_mut-requires-clause-first : goal.slot_mut-requires-clause-first
slot_mut-requires-clause-first g c = (Queue (queue_of c.me.inside.seat.me.0.part.queue), (at_hand g (goal.at.slot_mut-requires-clause-first g c).After-bring).first)

pub set_past-left-requires : goal.set_past-left-requires
set_past-left-requires g c = let a = at_hand g (goal.at.set_past-left-requires g c).After-bring in
    (c.me.inside.seat.me.0.part.queue, same_slot (cond_object c.args.c.0) _ _ _ _ c.slot_mut.ensures.value a.first, subst (Small most_threads) (ap (λ k. k.queue) (sym c.me.view_is)) c.requires.small)

pub fetch_add-count-requires-clause-inside : goal.fetch_add-count-requires-clause-inside
fetch_add-count-requires-clause-inside g c κs within = let near = cond_low _ _ _ _ c.p.view_is c.p.invariant.laid_out c.p.invariant.lawful c.args.c.0 c.requires.named in let word = c.count_word.ensures in omega arith

pub fetch_add-count-requires-clause-allowed : goal.fetch_add-count-requires-clause-allowed
fetch_add-count-requires-clause-allowed g c κs within = let near = cond_low _ _ _ _ c.p.view_is c.p.invariant.laid_out c.p.invariant.lawful c.args.c.0 c.requires.named in let word = c.count_word.ensures in let traces : c.p.inside.table.shared.key.traced ≡ c.args.p.now.traced = ap (λ s. s.traced) c.p.view_is in
    let same = c.bring.ensures.same.2 in let e = ap (λ v. v.part) same in advance_signal_keeps _ _ _ _ _ _ _ c.args.c.0 (c.bring.new.seat.me.0, _) _ word near (search rules) (ap (λ v. v.kind) same ∙ c.me.invariant.member) (ap (λ p. p.spin) e ∙ (ap (λ k. k.spin) c.me.view_is ∙ c.requires.inside)) (ap (λ p. p.wait) e ∙ (ap (λ k. k.wait) c.me.view_is ∙ c.requires.outside))
    (ap (λ p. p.left) e ∙ (ap (λ k. k.left) c.me.view_is ∙ (c.requires.even ∙ (ap (λ k. k.queue) (sym c.me.view_is) ∙ ap (λ p. p.queue) (sym e)))))
    (subst (λ (z : ℕ). z < 18446744073709551615) (ap (λ k. k.count) (sym c.me.view_is) ∙ ap (λ p. p.count) (sym e)) c.requires.room)
    (subst (λ (z : Bool × Life × Pen). MayRecord z.0 z.1 z.2) (λ j. (sym traces j, (ap (λ k. k.life) (sym c.me.view_is) ∙ ap (λ p. p.life) (sym e)) j, (ap (λ k. k.pen) (sym c.me.view_is) ∙ ap (λ p. p.pen) (sym e)) j)) c.requires.pen)

signalled : (g : Over) (c : After-fetch_add-count g) → QueueAtHand c.me.inside.seat.me c.bring.new.seat.me c.bring.new.hand (cond_object c.args.c.0)
    → After (λ n p. record (recorded p (p.seen ++ (c.fetch_add-count.ensures.2 c.args.c.0 c.count_word.ensures).2) (event n (signal_action c.args.c.0 (tail_of p.queue)))) { left = tail_of p.queue; count = p.count + 1; calling = None }) (λ vs. vs) c.me.inside.seat.table_id c.fetch_add-count.new.seat.table_id c.me.inside.number c.bring.new.hand c.me.inside.seat.me c.fetch_add-count.new.seat.me c.me.inside.room.items (vec_capacity c.me.inside.room)
signalled g c a = requeued _ _ _ _ _ _ _ _ _ _ _ _ c.me.invariant a (c.fetch_add-count.ensures.0 ∙ c.bring.ensures.same.0) (same_slot (cond_object c.args.c.0) _ _ _ _ c.slot_mut.ensures.value a.first) (c.fetch_add-count.ensures.2 c.args.c.0 c.count_word.ensures).4 refl refl refl
    (λ e. c.me.invariant.hands.room (cond_object c.args.c.0) a.spins e)

pub invariant_of-me : goal.invariant_of-me
invariant_of-me g c = let t = goal.at.invariant_of-me g c in (signalled g t.After-fetch_add-count (at_hand g t.After-bring)).fits

pub returns-clause-count : goal.returns-clause-count
returns-clause-count g c = (c.fetch_add-count.ensures.2 c.args.c.0 c.count_word.ensures).0 ∙ (ap (λ v. v.part.count) c.bring.ensures.same.2 ∙ ap (λ k. k.count) c.me.view_is)

pub returns-clause-distinct : goal.returns-clause-distinct
returns-clause-distinct g c = subst Distinct (ap (λ v. v.part.queue) c.bring.ensures.same.2 ∙ ap (λ k. k.queue) c.me.view_is) (c.fetch_add-count.ensures.2 c.args.c.0 c.count_word.ensures).1

pub returns-clause-event : goal.returns-clause-event
returns-clause-event g c = let u = c.fetch_add-count.ensures.2 c.args.c.0 c.count_word.ensures in
    recorded_after (λ n q. event n (signal_action c.args.c.0 (tail_of q))) (λ p. record p { left = tail_of p.queue; count = p.count + 1; calling = None }) u.2 _ _ c.me.inside.number _ _ c.me.inside.seat.me c.fetch_add-count.new.seat.me c.bring.new.seat.me.0 _ c.args.me.now c.me.view_is (c.fetch_add-count.ensures.0 ∙ c.bring.ensures.same.0) c.bring.ensures.same.2 c.me.invariant.numbered u.3 u.4 (λ q. refl) (λ q. refl) (λ q. refl)

pub returns-clause-advanced : goal.returns-clause-advanced
returns-clause-advanced g c = let t = goal.at.returns-clause-advanced g c in let k = c.args.me.now in
    subst (λ b. b ≡ record k { part = record k.part { seen = b.seen; mine = b.mine; places = b.places; left = tail_of k.queue; count = k.count + 1; calling = None; pen = made k.pen } }) (sym ((signalled g t.After-fetch_add-count (at_hand g t.After-bring)).sees _ _ _ _ c.me.view_is)) refl
