use Rattle.std.proofs.Common.{◌≢◌, ◌<◌, ℕ, map, Some}
use Rattle.std.specs.Prelude.{slice_get}
use Rattle.script_run.specs.Slots.{slot_number}
use Rattle.script_run.proofs.cut.width.Given as goal

abbrev pub invariant-loop-at : goal.invariant-loop-at
invariant-loop-at l = (n : ℕ) → n < l.at → slice_get (map slot_number l.slots) n ≢ Some l.who.0
