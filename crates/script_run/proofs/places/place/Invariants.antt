use Rattle.std.proofs.Common.{◌≡◌, ◌≤◌, ◌+◌, ℕ, take, drop, length, vec_capacity}
use Rattle.nub_rule.specs.Forks.{with_number}
use Rattle.script_run.specs.Placing.{occurs, AreTaken}
use Rattle.script_run.proofs.places.place.Given as goal

abbrev pub invariant-loop-at : goal.invariant-loop-at
invariant-loop-at l = record {
  taken : AreTaken l.fn.rights.items (take l.at l.order) l.slots.items l.rights.items;
  enough : (n : ℕ) → occurs n (drop l.at l.order) ≤ length (with_number n l.rights.items);
  count : length l.slots.items ≡ l.at;
  room : length l.order + 1 ≤ vec_capacity l.slots;
}
