-- Bytes in order, and prefixes of them.
use Rattle.std.proofs.Common.{◌≡◌, ◌⊎◌, inl, inr, ℕ, ◌<◌, true, List, [], ◌∷◌, ◌++◌, arith, refl, sym, ap, subst, ◌∙◌, ⊎_elim, nat_cmp}
use Rattle.std.specs.Prelude.{◌&&◌}
use Rattle.std.specs.declared.cmp.Ordering.{Ordering}
use Rattle.std.specs.declared.cmp.Ordering.TheVariants.{Less, Equal, Greater}
use Rattle.std.specs.Ordering.{ordering_then, MatchOrdering}
use Rattle.std.specs.Cmp.Lexicographic.{slice_cmp}
use Rattle.std.proofs.lemmas.Cmp.{ranked, nat_cmp_total, tied_itself}
use Rattle.std.proofs.lemmas.Bool.{eq-eqb}
use Rattle.std.proofs.lemmas.Bool.Decides.{eqb_tells}
use Rattle.word_index.specs.Index.{IsBelow}
use Rattle.index_text.specs.Lines.{is_prefix}

then_less : (x y : ℕ) (r : Ordering) → ordering_then (nat_cmp x y) r ≡ Less → (x < y) ⊎ ((x ≡ y) × (r ≡ Less))
then_less x y r h = by (nat_cmp x y) refl h (ranked x y (nat_cmp x y) refl)
  where
    by : (o : Ordering) → nat_cmp x y ≡ o → ordering_then o r ≡ Less → MatchOrdering o (x < y) (x ≡ y) (y < x) → (x < y) ⊎ ((x ≡ y) × (r ≡ Less))
    by Less e h m = inl m
    by Equal e h m = inr (m, h)
    by Greater e h m = absurd (cc)

nat_less : (x y : ℕ) → x < y → nat_cmp x y ≡ Less
nat_less x y h = by (nat_cmp x y) refl (ranked x y (nat_cmp x y) refl)
  where
    by : (o : Ordering) → nat_cmp x y ≡ o → MatchOrdering o (x < y) (x ≡ y) (y < x) → nat_cmp x y ≡ Less
    by Less e m = e
    by Equal e m = absurd (omega (arith, h, m))
    by Greater e m = absurd (omega (arith, h, m))

pub below_cons : (x y : ℕ) (xs ys : List ℕ) → IsBelow (x ∷ xs) (y ∷ ys) → (x < y) ⊎ ((x ≡ y) × IsBelow xs ys)
below_cons x y xs ys h = then_less x y (slice_cmp nat_cmp xs ys) h

pub below_first : (x y : ℕ) (xs ys : List ℕ) → x < y → IsBelow (x ∷ xs) (y ∷ ys)
below_first x y xs ys h = ap (λ o. ordering_then o (slice_cmp nat_cmp xs ys)) (nat_less x y h)

pub below_rest : (x : ℕ) (xs ys : List ℕ) → IsBelow xs ys → IsBelow (x ∷ xs) (x ∷ ys)
below_rest x xs ys h = ap (λ o. ordering_then o (slice_cmp nat_cmp xs ys)) (tied_itself nat_cmp_total x) ∙ h

-- the same prefix before both
pub below_prefix : (w xs ys : List ℕ) → IsBelow xs ys → IsBelow (w ++ xs) (w ++ ys)
below_prefix [] xs ys h = h
below_prefix (x ∷ w) xs ys h = below_rest x (w ++ xs) (w ++ ys) (below_prefix w xs ys h)

pub below_cancel : (w xs ys : List ℕ) → IsBelow (w ++ xs) (w ++ ys) → IsBelow xs ys
below_cancel [] xs ys h = h
below_cancel (x ∷ w) xs ys h = ⊎_elim (λ (lt : x < x). absurd (omega (arith, lt))) (λ (p : (x ≡ x) × IsBelow (w ++ xs) (w ++ ys)). below_cancel w xs ys p.1) (below_cons x x (w ++ xs) (w ++ ys) h)

pub below_longer : (xs : List ℕ) (y : ℕ) (ys : List ℕ) → IsBelow xs (xs ++ y ∷ ys)
below_longer [] y ys = refl
below_longer (x ∷ xs) y ys = below_rest x xs (xs ++ y ∷ ys) (below_longer xs y ys)

pub below_more : (xs ys more : List ℕ) → IsBelow xs ys → IsBelow xs (ys ++ more)
below_more [] [] more h = absurd (cc)
below_more [] (y ∷ ys) more h = refl
below_more (x ∷ xs) [] more h = absurd (cc)
below_more (x ∷ xs) (y ∷ ys) more h = ⊎_elim
    (λ (lt : x < y). below_first x y xs (ys ++ more) lt)
    (λ (p : (x ≡ y) × IsBelow xs ys). subst (λ z. IsBelow (x ∷ xs) (z ∷ (ys ++ more))) p.0 (below_rest x xs (ys ++ more) (below_more xs ys more p.1)))
    (below_cons x y xs ys h)

pub prefix_rest : (xs ys : List ℕ) → is_prefix xs ys ≡ true → (rest : List ℕ) × (ys ≡ xs ++ rest)
prefix_rest [] ys h = (ys, refl)
prefix_rest (x ∷ xs) [] h = absurd (cc)
prefix_rest (x ∷ xs) (y ∷ ys) h = elim (eqb_tells x y) [
  | inl p ↦ let r = prefix_rest xs ys (sym (ap (λ b. b && is_prefix xs ys) p.0) ∙ h) in (r.0, (λ i. sym p.1 i ∷ r.1 i))
  | inr p ↦ let no = sym (ap (λ b. b && is_prefix xs ys) p.0) ∙ h in absurd (cc)
]

pub prefix_is : (xs rest : List ℕ) → is_prefix xs (xs ++ rest) ≡ true
prefix_is [] rest = refl
prefix_is (x ∷ xs) rest = ap (λ b. b && is_prefix xs (xs ++ rest)) (eq-eqb x x refl) ∙ prefix_is xs rest

-- what is below a longer text is below its prefix, or begins with it
pub below_or_prefix : (xs ys more : List ℕ) → IsBelow xs (ys ++ more) → IsBelow xs ys ⊎ (is_prefix ys xs ≡ true)
below_or_prefix xs [] more h = inr refl
below_or_prefix [] (y ∷ ys) more h = inl refl
below_or_prefix (x ∷ xs) (y ∷ ys) more h = ⊎_elim
    (λ (lt : x < y). inl (below_first x y xs ys lt))
    (λ (p : (x ≡ y) × IsBelow xs (ys ++ more)). ⊎_elim
    (λ (b : IsBelow xs ys). inl (subst (λ z. IsBelow (x ∷ xs) (z ∷ ys)) p.0 (below_rest x xs ys b)))
    (λ (f : is_prefix ys xs ≡ true). inr (ap (λ b. b && is_prefix ys xs) (eq-eqb y x (sym p.0)) ∙ f))
    (below_or_prefix xs ys more p.1))
    (below_cons x y xs (ys ++ more) h)
