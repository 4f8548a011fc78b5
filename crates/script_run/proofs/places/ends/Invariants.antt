use Rattle.std.proofs.Common.{◌≡◌, ◌≤◌, ◌++◌, length, vec_capacity}
use Rattle.script_run.specs.Placing.{ended_slots}
use Rattle.script_run.proofs.places.ends.Given as goal

abbrev pub invariant-loop-slot : goal.invariant-loop-slot
invariant-loop-slot l = record {
  all : l.fn.slots.items ≡ l.yielded ++ l.slot-iterator.rest.items;
  items : ended_slots l.over.items ≡ l.yielded;
  room : length l.fn.slots.items ≤ vec_capacity l.over;
}
