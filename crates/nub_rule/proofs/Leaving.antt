-- The threads after the first of a queue, gathered from the last on.
use Rattle.std.proofs.Common.{◌≡◌, ℕ, zero, suc, ◌+◌, ◌<◌, ◌≤◌, List, [], ◌∷◌, length, get_or, refl, sym, ap, ◌∙◌, arith}
use Rattle.nub_rule.specs.Items.{Small}
use Rattle.nub_rule.specs.Plays.{tail_of}

-- the list less its first n
abbrev pub dropped : ℕ → List ℕ → List ℕ
dropped zero xs = xs
dropped (suc n) [] = []
dropped (suc n) (x ∷ xs) = dropped n xs

pub dropped-step : (n : ℕ) (xs : List ℕ) → n < length xs → dropped n xs ≡ get_or xs n 0 ∷ dropped (n + 1) xs
dropped-step n [] h = absurd (omega arith)
dropped-step zero (x ∷ xs) h = refl
dropped-step (suc n) (x ∷ xs) h = dropped-step n xs (omega arith) ∙ (λ i. get_or xs n 0 ∷ dropped (e i) (x ∷ xs))
  where
    e : suc (n + 1) ≡ suc n + 1
    e = omega arith

pub dropped-all : (xs : List ℕ) → dropped (length xs) xs ≡ []
dropped-all [] = refl
dropped-all (x ∷ xs) = dropped-all xs

pub small-at : (k n : ℕ) (xs : List ℕ) → Small k xs → n < length xs → get_or xs n 0 < k
small-at k n [] s h = absurd (omega arith)
small-at k zero (x ∷ xs) s h = s.0
small-at k (suc n) (x ∷ xs) s h = small-at k n xs s.1 (omega arith)

pub tail_of-dropped : (n : ℕ) (xs : List ℕ) → n ≤ 1 → n ≤ length xs → (n ≡ 0 → xs ≡ []) → dropped n xs ≡ tail_of xs
tail_of-dropped zero xs lo hi none_there = let e = none_there refl in e ∙ ap tail_of (sym e)
tail_of-dropped (suc zero) [] lo hi h = refl
tail_of-dropped (suc zero) (x ∷ xs) lo hi h = refl
tail_of-dropped (suc (suc n)) xs lo hi h = absurd (omega arith)

pub nil-of : (l : List ℕ) → length l ≡ 0 → l ≡ []
nil-of [] e = refl
nil-of (x ∷ xs) e = absurd (omega arith)
