-- A number summed over all shares: each one's part of it, and what becomes of it.
use Rattle.std.proofs.Common.{◌≡◌, ℕ, ◌+◌, ◌*◌, ◌≤◌, zero, suc, List, [], ◌∷◌, length, map, sum, slice_set, arith, sym, ap, refl}
use Rattle.std.specs.List.{range_with_len}
use Rattle.std.proofs.lemmas.List.Sums.{sum_by-cons}
use mathlib.Core.Option.{some, some-injective, some-ne-none}
use lib.ListN.{get_elem?}
use Rattle.nub_rule.specs.Ends.{firsts}
use Rattle.nub_rule.specs.Items.{Each}
use Rattle.nub.specs.Totals.{total}

at-alike : {A : Type 0} (r : A) (ns : List ℕ) (t : ℕ) (s : A) → get_elem? (map (λ n. r) ns) t ≡ some s → r ≡ s
at-alike r [] t s e = absurd (some-ne-none s (sym e))
at-alike r (n ∷ ns) zero s e = some-injective r s e
at-alike r (n ∷ ns) (suc t) s e = at-alike r ns t s e

-- where all begin with the same share, each has it
pub at_firsts : {A : Type 0} (r : A) (n t : ℕ) (s : A) → get_elem? (firsts (λ k. r) n) t ≡ some s → r ≡ s
at_firsts r n t s e = at-alike r (range_with_len 0 n) t s e

module _ {A : Type 0} (f : A → ℕ) where
  -- each one's part is at most all
  pub own_part : (xs : List A) (t : ℕ) (s : A) → get_elem? xs t ≡ some s → f s ≤ total f xs
  own_part [] t s e = absurd (some-ne-none s (sym e))
  own_part (x ∷ xs) zero s e = let h : f x ≡ f s = ap f (some-injective x s e) in omega arith
  own_part (x ∷ xs) (suc t) s e = let h = own_part xs t s e in omega arith

  -- after one share has changed
  pub part_set : (xs : List A) (t : ℕ) (s r : A) → get_elem? xs t ≡ some s → total f (slice_set xs t r) + f s ≡ total f xs + f r
  part_set [] t s r e = absurd (some-ne-none s (sym e))
  part_set (x ∷ xs) zero s r e = let h : f x ≡ f s = ap f (some-injective x s e) in omega arith
  part_set (x ∷ xs) (suc t) s r e = let h = part_set xs t s r e in omega arith

  -- where each part is small
  pub total_most : (k : ℕ) (xs : List A) → ((t : ℕ) (s : A) → get_elem? xs t ≡ some s → f s ≤ k) → total f xs ≤ length xs * k
  total_most k [] h = omega arith
  total_most k (x ∷ xs) h = let a = h 0 x refl in let b = total_most k xs (λ t. h (suc t)) in omega arith

  total-alike : (r : A) (ns : List ℕ) → f r ≡ 0 → total f (map (λ n. r) ns) ≡ 0
  total-alike r [] none = refl
  total-alike r (n ∷ ns) none = let h = total-alike r ns none in omega arith

  -- where all begin with a share that has no part
  pub total_firsts : (r : A) (n : ℕ) → f r ≡ 0 → total f (firsts (λ k. r) n) ≡ 0
  total_firsts r n none = total-alike r (range_with_len 0 n) none

  -- what was said of each share adds up to all
  pub sum_said : (said : List ℕ) (xs : List A) → length said ≡ length xs → Each (λ n s. get_elem? said n ≡ some (f s)) xs → sum said ≡ total f xs
  sum_said [] [] long each = refl
  sum_said [] (x ∷ xs) long each = absurd (omega arith)
  sum_said (k ∷ said) [] long each = absurd (omega arith)
  sum_said (k ∷ said) (x ∷ xs) long each =
      let first : k ≡ f x = some-injective k (f x) (each 0 x refl) in
      let rest = sum_said said xs (omega arith) (λ n. each (suc n)) in
      let all : sum (k ∷ said) ≡ k + sum said = sum_by-cons (λ y. y) k said in
      omega arith
