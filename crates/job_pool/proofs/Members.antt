-- What stands in a list.
use Rattle.std.proofs.Common.{◌≡◌, ◌⊎◌, ℕ, zero, suc, ◌<◌, List, [], ◌∷◌, length, get_or, refl, inl, inr, arith}
use Rattle.std.specs.List.{Contains}

cases_at : {X : Type 0} (x : X) (xs : List X) (z : X) (k : ℕ) → k < length (x ∷ xs) → get_or (x ∷ xs) k z ≡ z → (x ≡ z) ⊎ Contains xs z
cases_at x xs z zero low e = inl e
cases_at x xs z (suc k) low e = inr (k, omega arith, e)

pub contains_cases : {X : Type 0} (x : X) (xs : List X) (z : X) → Contains (x ∷ xs) z → (x ≡ z) ⊎ Contains xs z
contains_cases x xs z c = cases_at x xs z c.0 c.1 c.2

pub contains_head : {X : Type 0} (x : X) (xs : List X) → Contains (x ∷ xs) x
contains_head x xs = (0, omega arith, refl)

pub contains_tail : {X : Type 0} (x : X) (xs : List X) (z : X) → Contains xs z → Contains (x ∷ xs) z
contains_tail x xs z c = let low = c.1 in (suc c.0, omega arith, c.2)

pub contains_none : {X : Type 0} (z : X) → Contains [] z → ⊥
contains_none z c = let low = c.1 in omega arith
