use Rattle.std.proofs.Common.{◌<◌, ℕ, take, length}
use Rattle.script_run.specs.Slots.{EndsLive}
use Rattle.script_run.proofs.slots.boundary.Given as goal

abbrev pub invariant-loop-end : goal.invariant-loop-end
invariant-loop-end l = record {
  within : 0 < l.found → l.found < length l.slots;
  live : 0 < l.found → EndsLive (take l.found l.slots);
  last : (n : ℕ) → l.found < n → n < l.end → EndsLive (take n l.slots) → ⊥;
}
