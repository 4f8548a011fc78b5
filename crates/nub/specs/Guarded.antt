-- What holds of the values of a use, stated for one value at a time.
use Rattle.std.specs.Prelude.{◌≡◌, ℕ, List, length}
use mathlib.Core.Option.{some}
use lib.ListN.{get_elem?}

-- the predicate of each mutex holds of its value and of all shares
pub record Guarded {V H : Type 0} (guard : ℕ → V → List H → Type 0) (values : List V) (shares : List H) : Type 0 where
  pub each : (m : ℕ) (x : V) → get_elem? values m ≡ some x → guard m x shares

-- there is one mutex, and the predicate holds of its value and of all shares
pub record OneValue {V H : Type 0} (guard : V → List H → Type 0) (values : List V) (shares : List H) : Type 0 where
  pub one : length values ≡ 1
  pub each : (m : ℕ) (x : V) → get_elem? values m ≡ some x → guard x shares
