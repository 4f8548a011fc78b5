-- The laws of sums as a use of the package: a thread that takes a value finds what it knows of it,
-- and a change keeps the sums.
use Rattle.std.specs.Prelude.{◌≡◌, ◌≢◌, ◌⊎◌, ℕ, ◌+◌, ◌-◌, ◌*◌, ◌≤◌, List, [], ◌∷◌, length, slice_set}
use Rattle.std.proofs.Common.{zero, suc, arith, sym, ap, subst, ⊎_elim, refl}
use mathlib.Core.Option.{some, some-injective, some-ne-none}
use lib.ListN.{get_elem?}
use Rattle.std.proofs.lemmas.List.{length-set}
use Rattle.std.proofs.lemmas.Bool.{cases_eq}
use Rattle.atomic_table.proofs.Lists.{at_set}
use Rattle.sum_uses.specs.declared.added.Added.{Added}
use Rattle.sum_uses.specs.Sums.{added, total, AreSums, IsAbove, GrowsAlike}

added_at : (m : ℕ) (shares : List (List Added)) (t : ℕ) (s : List Added) → get_elem? shares t ≡ some s → added m s ≤ total m shares
added_at m [] t s e = absurd (some-ne-none s (sym e))
added_at m (x ∷ xs) zero s e = let h : added m x ≡ added m s = ap (added m) (some-injective x s e) in omega arith
added_at m (x ∷ xs) (suc t) s e = let h = added_at m xs t s e in omega arith

total_set : (m : ℕ) (shares : List (List Added)) (t : ℕ) (s r : List Added) → get_elem? shares t ≡ some s
    → total m (slice_set shares t r) + added m s ≡ total m shares + added m r
total_set m [] t s r e = absurd (some-ne-none s (sym e))
total_set m (x ∷ xs) zero s r e = let h : added m x ≡ added m s = ap (added m) (some-injective x s e) in omega arith
total_set m (x ∷ xs) (suc t) s r e = let h = total_set m xs t s r e in omega arith

total_small : (m : ℕ) (shares : List (List Added)) → ((t : ℕ) (s : List Added) → get_elem? shares t ≡ some s → added m s ≤ 100000000000)
    → total m shares ≤ length shares * 100000000000
total_small m [] h = omega arith
total_small m (s ∷ shares) h = let a = h 0 s refl in let b = total_small m shares (λ t. h (suc t)) in omega arith

pub fits_sums : (w : Prim.Unit {0}) (values : List ℕ) (shares : List (List Added)) → AreSums values shares → (m x : ℕ)
    → get_elem? values m ≡ some x → (t : ℕ) (s : List Added) → get_elem? shares t ≡ some s → IsAbove m x s
fits_sums w values shares h m x at t s there =
    let a = added_at m shares t s there in
    let b = h.sums m x at in
    let c = total_small m shares (λ t s e. h.small t s e m) in
    let d = h.few in
    record { own = omega arith; small = omega arith }

still_small : (m k x y : ℕ) (s r : List Added) → GrowsAlike m x y s r → added k s ≤ 100000000000 → added k r ≤ 100000000000
still_small m k x y s r ok h = ⊎_elim
    (λ (e : k ≡ m). let a = ok.small in subst (λ (n : ℕ). added n r ≤ 100000000000) (sym e) a)
    (λ (n : k ≢ m). let a = ok.others k n in omega arith)
    (cases_eq k m)

pub after_sums : (w : Prim.Unit {0}) (values : List ℕ) (shares : List (List Added)) → AreSums values shares → (m x y : ℕ)
    → get_elem? values m ≡ some x → (t : ℕ) (s r : List Added) → get_elem? shares t ≡ some s → GrowsAlike m x y s r
    → AreSums (slice_set values m y) (slice_set shares t r)
after_sums w values shares h m x y at t s r there ok = record {
  few = let a = length-set shares t r in let b = h.few in omega arith;
  small = λ j u e k. ⊎_elim
      (λ (p : (j ≡ t) × (r ≡ u)). let same : added k r ≡ added k u = ap (added k) p.1 in
      let a = still_small m k x y s r ok (h.small t s there k) in omega arith)
      (λ (p : (j ≢ t) × (get_elem? shares j ≡ some u)). h.small j u p.1 k)
      (at_set shares t j r u e);
  sums = λ k z e. let sum = total_set k shares t s r there in ⊎_elim
      (λ (p : (k ≡ m) × (y ≡ z)). let a = h.sums m x at in let b = p.1 in let c = ok.alike in let d = total_set m shares t s r there in
      let f : total k (slice_set shares t r) ≡ total m (slice_set shares t r) = ap (λ (n : ℕ). total n (slice_set shares t r)) p.0 in
      omega arith)
      (λ (p : (k ≢ m) × (get_elem? values k ≡ some z)). let a = h.sums k z p.1 in let b = ok.others k p.0 in omega arith)
      (at_set values m k y z e);
}
