-- The slots that a seat has, by their numbers.
use Rattle.std.specs.Prelude.{Bool, false, ◌≡◌, ℕ, ◌+◌, ◌<◌, cond, eqb, List, [], ◌∷◌, ◌++◌, Option as Opt, Some, None, reverse}

module _ {S : Type 0} where
  -- what the slot k holds, if it is out with the seat
  abbrev pub find : ℕ → List (ℕ × S) → Opt S
  find k [] = None
  find k (x ∷ xs) = cond (eqb x.0 k) (Some x.1) (find k xs)

  -- how many slots come before k
  abbrev pub place : ℕ → List (ℕ × S) → ℕ
  place k [] = 0
  place k (x ∷ xs) = cond (eqb x.0 k) 0 (1 + place k xs)

  -- no slot is there twice
  abbrev pub IsDistinct : List (ℕ × S) → Type 0
  IsDistinct [] = Unit {0}
  IsDistinct (x ∷ xs) = (find x.0 xs ≡ None) × IsDistinct xs

  -- each slot's number is below n
  abbrev pub Below : ℕ → List (ℕ × S) → Type 0
  Below n [] = Unit {0}
  Below n (x ∷ xs) = (x.0 < n) × Below n xs

-- the numbers of a seat's slots, the last taken first
abbrev pub hand_of : Opt ℕ → List ℕ → List ℕ
hand_of None below = []
hand_of (Some top) below = top ∷ reverse below

abbrev pub turned_hand : List ℕ → List ℕ
turned_hand [] = []
turned_hand (x ∷ xs) = xs ++ x ∷ []

abbrev pub starts_with : List ℕ → ℕ → Bool
starts_with [] k = false
starts_with (x ∷ xs) k = eqb x k

abbrev pub past_first : List ℕ → List ℕ
past_first [] = []
past_first (x ∷ xs) = xs
