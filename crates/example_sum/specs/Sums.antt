-- The sum that the mutex protects, and what each thread has added to it.
use Rattle.std.specs.Prelude.{◌≡◌, ℕ, ◌+◌, ◌≤◌, ◌^◌, List, length}
use mathlib.Core.Option.{some}
use lib.ListN.{get_elem?}
use Rattle.nub.specs.Guarded.{OneValue}
use Rattle.nub.specs.Totals.{total}

-- the sum is all that the threads have added, which are few and have each added little
pub record IsSum (sum : ℕ) (shares : List ℕ) : Type 0 where
  pub few : length shares ≤ 256
  pub small : (t s : ℕ) → get_elem? shares t ≡ some s → s ≤ 2 ^ 55
  pub all : sum ≡ total (λ s. s) shares

-- this holds of the value of the one mutex
abbrev pub AreSums : List ℕ → List ℕ → Type 0
AreSums values shares = OneValue IsSum values shares

-- the share grows by as much as the sum
pub record IsAdded (sum now s r : ℕ) : Type 0 where
  pub alike : now + s ≡ sum + r
  pub small : r ≤ 2 ^ 55
