use Rattle.std.proofs.Common.{◌≡◌, ◌<◌, ℕ, Some}
use Rattle.std.specs.Prelude.{slice_get}
use Rattle.walker.specs.Found.{names_in}
use Rattle.walker.proofs.found.has_file.Given as goal

abbrev pub invariant-loop-at : goal.invariant-loop-at
invariant-loop-at l = (k : ℕ) → k < l.at → slice_get (names_in l.root l.files.items) k ≡ Some l.name → ⊥
