-- How often a value is in a list.
use Rattle.std.specs.Prelude.{◌≡◌, ℕ, ◌+◌, cond, eqb, List, [], ◌∷◌}

-- how often v is in the list
abbrev pub times : ℕ → List ℕ → ℕ
times v [] = 0
times v (x ∷ xs) = cond (eqb x v) 1 0 + times v xs

-- each value is in both lists equally often
abbrev pub HasAll : List ℕ → List ℕ → Type 0
HasAll xs ys = (v : ℕ) → times v xs ≡ times v ys
