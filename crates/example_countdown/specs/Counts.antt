-- The number that the mutex protects, and what the threads' shares have to do with it.
use Rattle.std.specs.Prelude.{◌≡◌, ℕ, ◌+◌, ◌≤◌, List}
use Rattle.firefly_threads.specs.Totals.{total}

-- the lock invariant: as many are left as the shares add up to
abbrev pub IsLeft : ℕ → List ℕ → Type 0
IsLeft left shares = left ≡ total (λ s. s) shares

-- what a holder knows of the number and of its own share
abbrev pub IsPart : ℕ → ℕ → Type 0
IsPart left s = s ≤ left

-- what a holder may do: the number falls by as much as its share
abbrev pub Moves : ℕ → ℕ → ℕ → ℕ → Type 0
Moves left now s r = left + r ≡ now + s
