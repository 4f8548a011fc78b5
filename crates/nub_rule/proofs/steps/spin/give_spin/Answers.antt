use Rattle.std.proofs.Common.{arith, ◌≡◌, ◌≤◌, ◌<◌, ◌∙◌, ◌∷◌, [], ℕ, List, ap, sym, subst, length, refl, Some, None, vec_capacity}
use Rattle.atomic_table.specs.Seated.{TableId}
use Rattle.nub_rule.specs.declared.rule.Slot.TheVariants.{Queue}
use Rattle.nub_rule.specs.Items.{queue_of}
use Rattle.nub_rule.specs.Known.{known_as, space_of}
use Rattle.nub_rule.specs.Places.{most_threads, value_at}
use Rattle.nub_rule.specs.Plays.{with_part}
use Rattle.nub_rule.specs.Places.{spin_at}
use Rattle.nub_rule.proofs.Naming.{object_low}
use Rattle.nub_rule.proofs.Handling.{values-same, gone, hands-same, hands-unspun}
use Rattle.nub_rule.proofs.Seen.{as_known, fit_given}
use Rattle.atomic_table.specs.Table.{rest}
use Rattle.nub_rule.proofs.SpinSteps.{give_spin_keeps}
use Rattle.nub_rule.proofs.steps.spin.give_spin.Goals as goal

pub bring-requires-clause-there : goal.bring-requires-clause-there
bring-requires-clause-there g c = let is = c.number-o.ensures in let o : ℕ = c.number-o.result in let here : c.me.inside.seat.me.0.part.spin ≡ Some o = ap (λ k. k.spin) c.me.view_is ∙ (c.requires.inside ∙ ap (λ (z : ℕ). Some z) (sym is)) in (Queue (queue_of c.me.inside.seat.me.0.part.queue), c.me.invariant.hands.queue_in o here)

pub swap-requires-clause-inside : goal.swap-requires-clause-inside
swap-requires-clause-inside g c κs within = let low = object_low _ _ _ _ c.p.view_is c.p.invariant.laid_out c.p.invariant.lawful c.args.at c.requires.named in let word = c.spin_word.ensures in omega arith

pub swap-requires-clause-allowed : goal.swap-requires-clause-allowed
swap-requires-clause-allowed g c κs within = let low = object_low _ _ _ _ c.p.view_is c.p.invariant.laid_out c.p.invariant.lawful c.args.at c.requires.named in let is = c.number-o.ensures in let o : ℕ = c.number-o.result in let here : c.me.inside.seat.me.0.part.spin ≡ Some o = ap (λ k. k.spin) c.me.view_is ∙ (c.requires.inside ∙ ap (λ (z : ℕ). Some z) (sym is)) in let word = c.spin_word.ensures ∙ ap spin_at (sym is) in let same = c.bring.ensures.same.2 in let q = ap (λ v. v.part) same in
    let first = c.bring.ensures.first _ (c.me.invariant.hands.queue_in o here) in give_spin_keeps _ _ _ _ _ _ _ o c.bring.new.seat.me _ word (omega arith) (ap (λ v. v.kind) same ∙ c.me.invariant.member) (ap (λ p. p.spin) q ∙ here) (ap (λ p. p.owed) q ∙ (ap (λ k. k.owed) c.me.view_is ∙ c.requires.owes_none))
    (ap (λ p. p.left) q ∙ (ap (λ k. k.left) c.me.view_is ∙ (c.requires.even ∙ (ap (λ k. k.queue) (sym c.me.view_is) ∙ ap (λ p. p.queue) (sym q)))))
    (first ∙ (λ j. (o, Queue (queue_of (ap (λ p. p.queue) (sym q) j))) ∷ rest c.bring.new.seat.me.1))

pub invariant_of-me : goal.invariant_of-me
invariant_of-me g c = let low = object_low _ _ _ _ c.p.view_is c.p.invariant.laid_out c.p.invariant.lawful c.args.at c.requires.named in let is = c.number-o.ensures in let o : ℕ = c.number-o.result in let here : c.me.inside.seat.me.0.part.spin ≡ Some o = ap (λ k. k.spin) c.me.view_is ∙ (c.requires.inside ∙ ap (λ (z : ℕ). Some z) (sym is)) in let same = c.bring.ensures.same.2 in let q = ap (λ v. v.part) same in let i = c.me.invariant in let h = i.hands in let far : o < 192 = omega arith in
    let first = c.bring.ensures.first _ (h.queue_in o here) in let b = c.bring.ensures in
    fit_given _ _ c.me.inside.number o _ _ _ c.bring.new.seat.me _ _ c.bring.new.seat.me.1 c.swap.ensures.0 c.swap.ensures.2.1 (ap (λ v. v.kind) same ∙ i.member) (ap (λ v. v.number) same ∙ i.numbered) (ap (λ p. length p.held) q ∙ i.wide) i.bare (subst (λ (z : TableId). c.me.inside.number ≡ 0 → z.slots ≤ value_at (vec_capacity c.me.inside.room)) (sym b.same.0) i.roomy) i.few
    b.keys c.give.ensures b.distinct b.below first refl
    (hands-unspun c.bring.new.seat.me.0.part _ c.bring.new.seat.me.1 (rest c.bring.new.seat.me.1) o _ far b.distinct first refl (ap (λ p. p.spin) q ∙ here) refl refl (ap (λ p. p.owed) q ∙ (ap (λ k. k.owed) c.me.view_is ∙ c.requires.owes_none))
    (hands-same c.me.inside.seat.me.0.part c.bring.new.seat.me.0.part c.me.inside.seat.me.1 c.bring.new.seat.me.1 (λ k. c.bring.ensures.hand k) (ap (λ p. p.spin) q) (ap (λ p. p.queue) q) (ap (λ p. p.held) q) (λ k there nowhere. subst (λ (l : List ℕ). length l < most_threads) (ap (λ p. p.queue) (sym q)) (h.room k (ap (λ p. p.spin) (sym q) ∙ there) (ap (λ p. p.stand) (sym q) ∙ nowhere))) (λ none_now. ap (λ p. p.owed) q ∙ h.settled (ap (λ p. p.spin) (sym q) ∙ none_now)) h))

pub returns-clause-found : goal.returns-clause-found
returns-clause-found g c = c.swap.ensures.2.0

pub returns-clause-outside : goal.returns-clause-outside
returns-clause-outside g c = let low = object_low _ _ _ _ c.p.view_is c.p.invariant.laid_out c.p.invariant.lawful c.args.at c.requires.named in let is = c.number-o.ensures in let o : ℕ = c.number-o.result in let here : c.me.inside.seat.me.0.part.spin ≡ Some o = ap (λ k. k.spin) c.me.view_is ∙ (c.requires.inside ∙ ap (λ (z : ℕ). Some z) (sym is)) in let same = c.bring.ensures.same.2 in let h = c.me.invariant.hands in
    let first = c.bring.ensures.first _ (h.queue_in o here) in let gone_now = gone o c.bring.new.seat.me.1 _ c.bring.ensures.distinct first in
    let v = values-same c.me.inside.seat.me.1 (rest c.bring.new.seat.me.1) (λ m. gone_now.1 (value_at m) (λ z. omega arith) ∙ c.bring.ensures.hand (value_at m)) in
    as_known (λ z m a. known_as z c.me.inside.number m c.me.inside.entries.items (space_of c.me.inside.entries c.me.inside.lost) c.me.inside.next ≡ record a { part = record a.part { spin = None; queue = []; left = [] } }) _ _ _ _ _ c.me.inside.seat.me _ _ _ c.me.view_is (c.swap.ensures.0 ∙ c.bring.ensures.same.0) (c.swap.ensures.2.1 ∙ (λ j. (with_part (same j) (record (same j).part { spin = None; queue = []; left = [] }), rest c.bring.new.seat.me.1)))
    (λ j. record (known_as c.me.inside.seat.table_id c.me.inside.number c.me.inside.seat.me c.me.inside.entries.items (space_of c.me.inside.entries c.me.inside.lost) c.me.inside.next) { part = record c.me.inside.seat.me.0.part { spin = None; queue = []; left = [] }; values = v j })
