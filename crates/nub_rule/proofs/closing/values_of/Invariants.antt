use Rattle.std.proofs.Common.{◌≡◌, ℕ, ◌+◌, ◌<◌, ◌≤◌, false, Some, get_or, length, vec_capacity}
use mathlib.Core.Option.{some}
use lib.ListN.{get_elem?}
use Rattle.std.specs.Mem.Slots.{slots_filled, slots_items, slots_len}
use Rattle.std.specs.Mem.Slots.Ownership.{Filled}
use Rattle.nub_rule.specs.declared.rule.Slot.TheVariants.{Value}
use Rattle.nub_rule.proofs.closing.values_of.Given as goal

abbrev pub invariant-loop-i : goal.invariant-loop-i
invariant-loop-i g l = record {
  len : slots_len l.closed.slots ≡ slots_len l.initial.closed.slots;
  items : slots_items l.closed.slots ≡ slots_items l.initial.closed.slots;
  full : Filled (slots_filled l.closed.slots) l.i (slots_len l.closed.slots);
  empty : (k : ℕ) → k < l.i → get_or (slots_filled l.closed.slots) k false ≡ false;
  room : slots_len l.closed.slots ≤ 192 + vec_capacity l.values;
  count : 192 + length l.values.items ≡ l.i;
  values : (m : ℕ) (x : g.row.T.Denot) → 192 + m < l.i → get_elem? (slots_items l.closed.slots) (192 + m) ≡ some (Value (Some x)) → get_elem? l.values.items m ≡ some x;
}
