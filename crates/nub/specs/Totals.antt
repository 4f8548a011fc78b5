-- A number summed over all shares, and how many threads have a number.
use Rattle.std.specs.Prelude.{ℕ, ◌+◌, cond, eqb, List, [], ◌∷◌}
use Rattle.nub_rule.specs.Known.{Known}

abbrev pub total : {A : Type 0} → (A → ℕ) → List A → ℕ
total f [] = 0
total f (x ∷ xs) = f x + total f xs

module _ {T H W : Type 0} where
  -- 1 if the thread has the number n
  abbrev pub is_number : ℕ → Known T H W → ℕ
  is_number n k = cond (eqb k.number n) 1 0

  -- how many of the threads have the number n
  abbrev pub times : ℕ → List (Known T H W) → ℕ
  times n ks = total (is_number n) ks
