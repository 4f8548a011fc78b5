use Rattle.std.proofs.Common.{rules, ◌≡◌, ℕ, ◌+◌, ◌-◌, ◌<◌, ◌∙◌, ap, sym, subst, arith, length, length-append, List, ◌∷◌, [], Some}
use Rattle.nub_rule.proofs.Each.{at_within}
use Rattle.nub_rule.proofs.Ends.{one_more, full_after, empty_before}
use mathlib.Core.Option.{some, some-injective}
use lib.ListN.{get_elem?}
use Rattle.std.specs.Mem.Slots.{slots_items, slots_counts, slots_len}
use Rattle.nub_rule.specs.declared.rule.Slot.{Slot}
use Rattle.nub_rule.specs.declared.rule.Slot.TheVariants.{Value}
use Rattle.nub_rule.proofs.closing.values_of.Goals as goal

pub value_in-x-requires : goal.value_in-x-requires
value_in-x-requires g c = let i : ℕ = c.loop-i.i in let inv = c.loop-i.invariant in
    let same : slots_items c.loop-i.closed.slots ≡ slots_items c.args.closed.slots = inv.items ∙ c.drop_queues.ensures.items in
    let e : 192 + (i - 192) ≡ i = omega arith in
    let v = c.requires.values (i - 192) (search rules) in
    (v.0, some-injective c.take.result (Value (Some v.0)) (sym c.take.ensures.value ∙ (ap (λ l. get_elem? l i) same ∙ (ap (get_elem? (slots_items c.args.closed.slots)) (sym e) ∙ v.1))))

pub loop-i-preserved : goal.loop-i-preserved
loop-i-preserved g c = let i : ℕ = c.loop-i.i in let inv = c.loop-i.invariant in let t = c.take.ensures.others in record {
  len = t.2 ∙ inv.len;
  items = t.0 ∙ inv.items;
  full = full_after _ _ i _ _ t.1 t.2 inv.full;
  empty = empty_before _ _ i t.1 inv.empty;
  room = let a = inv.room in let b = c.push_reserved.ensures.capacity in let e = inv.len in let d = t.2 in omega arith;
  count = let n = inv.count in omega (arith, ap length c.push_reserved.ensures.items, length-append c.loop-i.values.items (c.value_in-x.result ∷ []));
  values = subst (λ (l : List (Slot g.row.T.Denot)). (m : ℕ) (x : g.row.T.Denot) → 192 + m < i + 1 → get_elem? l (192 + m) ≡ some (Value (Some x)) → get_elem? c.push_reserved.new.self.items m ≡ some x) (sym t.0)
      (one_more (slots_items c.loop-i.closed.slots) c.loop-i.values.items c.push_reserved.new.self.items 192 i c.value_in-x.result c.push_reserved.ensures.items inv.count (c.take.ensures.value ∙ ap (λ z. some z) c.value_in-x.ensures) inv.values);
}

pub returns-clause-values : goal.returns-clause-values
returns-clause-values g c = let inv = c.loop-i.invariant in let same : slots_items c.loop-i.closed.slots ≡ slots_items c.args.closed.slots = inv.items ∙ c.drop_queues.ensures.items in
    λ m x at. let low = at_within (slots_items c.args.closed.slots) (192 + m) (Value (Some x)) at in let n = (slots_counts c.args.closed.slots).0 in
    inv.values m x (search rules) (ap (λ l. get_elem? l (192 + m)) same ∙ at)

pub returns-clause-count : goal.returns-clause-count
returns-clause-count g c = let inv = c.loop-i.invariant in let n = inv.count in let ends = c.loop-i.auto.i-end in let wide = c.requires.full.1 in let past = c.loop-i-test.false in let same = c.slot_count-i-end.ensures in let all = c.drop_queues.ensures.len in omega arith

pub take-requires : goal.take-requires
take-requires g c = let inv = c.loop-i.invariant in let low : c.loop-i.i < slots_len c.loop-i.closed.slots = subst (λ (z : ℕ). c.loop-i.i < z) (c.slot_count-i-end.ensures ∙ sym inv.len) c.loop-i-test.true in (low, inv.full c.loop-i.i (omega arith) low)
