use Rattle.std.proofs.Common.{◌≡◌, ◌≤◌, ◌+◌, ◌++◌, Some, length, map, vec_capacity}
use Rattle.nub_rule.specs.declared.rule.Slot.TheVariants.{Value}
use Rattle.nub_rule.proofs.opening.slots_of.Given as goal

abbrev pub invariant-loop-x : goal.invariant-loop-x
invariant-loop-x g l = record {
  items : l.slots.items ≡ l.initial.slots.items ++ map (λ x. Value (Some x)) l.yielded;
  all : l.fn.values.items ≡ l.yielded ++ l.x-iterator.rest.items;
  room : 192 + length l.fn.values.items ≤ vec_capacity l.slots;
}
