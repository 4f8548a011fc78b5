use Rattle.std.proofs.Common.{◌≡◌, ℕ, ◌<◌, false, get_or}
use Rattle.std.specs.Mem.Slots.{slots_filled, slots_items, slots_len}
use Rattle.std.specs.Mem.Slots.Ownership.{Filled}
use Rattle.nub_rule.proofs.closing.drop_queues.Given as goal

abbrev pub invariant-loop-i : goal.invariant-loop-i
invariant-loop-i g l = record {
  len : slots_len l.closed.slots ≡ slots_len l.initial.closed.slots;
  items : slots_items l.closed.slots ≡ slots_items l.initial.closed.slots;
  full : Filled (slots_filled l.closed.slots) l.i (slots_len l.closed.slots);
  empty : (k : ℕ) → k < l.i → get_or (slots_filled l.closed.slots) k false ≡ false;
}
