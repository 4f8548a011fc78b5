-- Words that differ, by tests that compute.
use Rattle.std.proofs.Common.{◌≡◌, ℕ, List, [], ◌∷◌, ◌++◌, refl, Bool, true, false}
use Rattle.std.proofs.lemmas.Bool.{eq-eqb}
use Rattle.std.specs.Prelude.{◌==◌, ◌&&◌, if◌then◌else◌}

abbrev pub differ : List ℕ → List ℕ → Bool
differ [] ys = false
differ (x ∷ xs) [] = false
differ (x ∷ xs) (y ∷ ys) = if x == y then differ xs ys else true

pub differ-apart : (xs ys a b : List ℕ) → differ xs ys ≡ true → xs ++ a ≡ ys ++ b → ⊥
differ-apart [] ys a b d e = absurd (cc)
differ-apart (x ∷ xs) [] a b d e = absurd (cc)
differ-apart (x ∷ xs) (y ∷ ys) a b d e =
    let heads : x ≡ y = cc in
    let tails : xs ++ a ≡ ys ++ b = cc in
    differ-apart xs ys a b (rw (eq-eqb x y heads) at d) tails

abbrev pub differs_from_all : List ℕ → List (List ℕ) → Bool
differs_from_all w [] = true
differs_from_all w (x ∷ xs) = differ w x && differs_from_all w xs

-- a test that computes over a table of words
abbrev pub all_differ : List (List ℕ) → Bool
all_differ [] = true
all_differ (w ∷ ws) = differs_from_all w ws && all_differ ws

pub both_true : (a b : Bool) → (a && b) ≡ true → (a ≡ true) × (b ≡ true)
both_true true b e = (refl, e)
both_true false b e = absurd (cc)
