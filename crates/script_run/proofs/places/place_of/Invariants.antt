use Rattle.std.proofs.Common.{◌≡◌, ◌≢◌, ◌<◌, ℕ}
use lib.ListN.{get_elem?}
use mathlib.Core.Option.{some}
use Rattle.script_run.specs.Playing.{Player}
use Rattle.script_run.proofs.places.place_of.Given as goal

abbrev pub invariant-loop-at : goal.invariant-loop-at
invariant-loop-at l = (n : ℕ) (k : Player) → n < l.at → get_elem? l.rights.items n ≡ some k → k.number ≢ l.number
