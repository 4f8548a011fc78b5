-- What adding does to the sums.
use Rattle.std.proofs.Common.{◌≡◌, ◌≢◌, ℕ, ◌+◌, ◌-◌, ◌≤◌, List, [], ◌∷◌, length, map, replicate, zero, suc, arith, sym, ap, subst, ◌∙◌, refl}
use mathlib.Core.Option.{some, some-injective, some-ne-none}
use lib.ListN.{get_elem?}
use Rattle.std.specs.List.{range_with_len}
use Rattle.std.proofs.lemmas.List.FromFn.{length-map-range_with_len}
use Rattle.std.proofs.lemmas.Bool.Decides.{nat_tests}
use Rattle.nub_rule.specs.Ends.{firsts}
use Rattle.sum_uses.specs.declared.added.Added.{Added}
use Rattle.sum_uses.specs.Sums.{added, total, AreSums, GrowsAlike, grown}

pub added_own : (m x y : ℕ) (s : List Added) → added m (grown m x y s) ≡ (y - x) + added m s
added_own m x y s = grind (arith, nat_tests)

added_else : (m k x y : ℕ) (s : List Added) → k ≢ m → added k (grown m x y s) ≡ added k s
added_else m k x y s n = grind (arith, nat_tests)

-- adding is allowed where the value rises and the share stays small
pub adding_grows : (m x y : ℕ) (s : List Added) → x ≤ y → added m s + (y - x) ≤ 100000000000 → GrowsAlike m x y s (grown m x y s)
adding_grows m x y s up few = let own = added_own m x y s in record {
  rises = up;
  alike = omega arith;
  others = λ k n. added_else m k x y s n;
  small = omega arith;
}

-- giving the value back as it was got is allowed where the share is small
pub staying_grows : (m x : ℕ) (s : List Added) → added m s ≤ 100000000000 → GrowsAlike m x x s s
staying_grows m x s few = record { rises = omega arith; alike = refl; others = λ k n. refl; small = few }

none-total : (m : ℕ) (ts : List ℕ) → total m (map (λ t. []) ts) ≡ 0
none-total m [] = refl
none-total m (t ∷ ts) = let h = none-total m ts in omega arith

none-added : (ts : List ℕ) (t : ℕ) (s : List Added) → get_elem? (map (λ t. []) ts) t ≡ some s → s ≡ []
none-added [] t s e = absurd (some-ne-none s (sym e))
none-added (x ∷ ts) zero s e = sym (some-injective [] s e)
none-added (x ∷ ts) (suc t) s e = none-added ts t s e

-- at first, where each value is 0
pub sums_begin : (values : List ℕ) (n : ℕ) → ((m x : ℕ) → get_elem? values m ≡ some x → x ≡ 0) → n ≤ 256 → AreSums values (firsts (λ t. []) n)
sums_begin values n none few = record {
  few = let e = length-map-range_with_len {X = List Added} (λ t. []) 0 n in omega arith;
  small = λ t s e m. let h : added m s ≡ 0 = ap (added m) (none-added (range_with_len 0 n) t s e) in omega arith;
  sums = λ m x e. none m x e ∙ sym (none-total m (range_with_len 0 n));
}

pub one_zero : (m x : ℕ) → get_elem? (0 ∷ []) m ≡ some x → x ≡ 0
one_zero zero x e = sym (some-injective 0 x e)
one_zero (suc m) x e = absurd (some-ne-none x (sym e))

pub all_zero : (n m x : ℕ) → get_elem? (replicate n 0) m ≡ some x → x ≡ 0
all_zero zero m x e = absurd (some-ne-none x (sym e))
all_zero (suc n) zero x e = sym (some-injective 0 x e)
all_zero (suc n) (suc m) x e = all_zero n m x e
