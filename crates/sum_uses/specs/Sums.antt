-- The values are the sums of what all threads have added.
use Rattle.std.specs.Prelude.{◌≡◌, ◌≢◌, ℕ, ◌+◌, ◌-◌, ◌≤◌, cond, eqb, List, [], ◌∷◌, length}
use mathlib.Core.Option.{some}
use lib.ListN.{get_elem?}
use Rattle.sum_uses.specs.declared.added.Added.{Added}

-- what a share has added under the mutex m
abbrev pub added : ℕ → List Added → ℕ
added m [] = 0
added m (a ∷ s) = cond (eqb a.mutex m) (a.amount + added m s) (added m s)

-- what all shares have added under the mutex m
abbrev pub total : ℕ → List (List Added) → ℕ
total m [] = 0
total m (s ∷ shares) = added m s + total m shares

-- each value is the sum of what the shares have added; the shares are few, and each has added
-- little
pub record AreSums (values : List ℕ) (shares : List (List Added)) : Type 0 where
  pub few : length shares ≤ 256
  pub small : (t : ℕ) (s : List Added) → get_elem? shares t ≡ some s → (m : ℕ) → added m s ≤ 100000000000
  pub sums : (m x : ℕ) → get_elem? values m ≡ some x → x ≡ total m shares

-- what a holder knows of the value x of the mutex m and of its own share
pub record IsAbove (m x : ℕ) (s : List Added) : Type 0 where
  pub own : added m s ≤ x
  pub small : x ≤ 25600000000000

-- under the mutex m the value grows from x to y, and the share by as much
pub record GrowsAlike (m x y : ℕ) (s r : List Added) : Type 0 where
  pub rises : x ≤ y
  pub alike : y + added m s ≡ x + added m r
  pub others : (k : ℕ) → k ≢ m → added k r ≡ added k s
  pub small : added m r ≤ 100000000000

-- the share after the value of the mutex m has grown from x to y
abbrev pub grown : ℕ → ℕ → ℕ → List Added → List Added
grown m x y s = record { mutex = m; amount = y - x } ∷ s
