-- The first of some readers that can still read, and whether some number may stand there.
use Rattle.std.proofs.Common.{◌≡◌, ℕ, zero, suc, ◌+◌, ◌<◌, ◌⊎◌, inl, inr, List, refl, ap, sym, subst, ◌∙◌, Ok, Err, Bool, true, false, arith}
use Rattle.std.proofs.lemmas.Bool.Decides.{eqb_tells}
use Rattle.std.proofs.lemmas.Bool.{false≢true}
use Rattle.std.specs.Prelude.{◌&&◌, ◌||◌}
use Rattle.exact_text.specs.declared.stop.Stop.TheVariants.{More, Dead}
use Rattle.exact_text.specs.Codes.{IsCode}
use Rattle.exact_text.specs.Reading.{Reader, or_else}
use Rattle.exact_text.proofs.CodeLaws.{AreApart, no_code, or_code, same_code}
use Rattle.script_text.specs.NextLine.{first_below, any_below}

-- one of the kinds below n
abbrev pub IsBelow : {X : Type 0} → (ℕ → X → Type 0) → ℕ → X → Type 0
IsBelow {X} lawful n x = (i : ℕ) × (i < n) × lawful i x

less : (i k : ℕ) → i < suc k → (i ≡ k → ⊥) → i < k
less i k lt ne = omega arith

pub less_or : (i k : ℕ) → i < suc k → (i < k) ⊎ (i ≡ k)
less_or i k lt = elim (eqb_tells i k) [ inl p ↦ inr p.1 | inr p ↦ inl (less i k lt p.1) ]

module _ {X : Type 0} (lawful : ℕ → X → Type 0) (text : X → List ℕ) (read : ℕ → Reader X) (code : (i : ℕ) → IsCode (lawful i) text (read i)) where
  pub below_code : (n : ℕ) → ((i j : ℕ) → i < j → j < n → AreApart (lawful i) (lawful j) text) → IsCode (IsBelow lawful n) text (first_below read n)
  below_code zero apart = no_code (IsBelow lawful zero) text (λ x h. absurd (omega (arith, h.1)))
  below_code (suc k) apart =
      same_code (or_code (below_code k (λ i j lt low. apart i j lt (omega arith))) (code k) (λ x y a b p q e. apart p.0 k p.1 (omega arith) x y a b p.2 q e)) (IsBelow lawful (suc k)) text (λ x. refl)
      (λ x h. elim h [ inl p ↦ (p.0, omega (arith, p.1), p.2) | inr p ↦ (k, omega arith, p) ])
      (λ x h. elim (less_or h.0 k h.1) [ inl lt ↦ inl (h.0, lt, h.2) | inr e ↦ inr (subst (λ i. lawful i x) e h.2) ])

-- what the first reader gives is what all give
pub below_ok : {X : Type 0} (read : ℕ → Reader X) (bytes : List ℕ) (k n : ℕ) (x : X × List ℕ) → first_below read k bytes ≡ Err Dead → read k bytes ≡ Ok x → k < n → first_below read n bytes ≡ Ok x
below_ok read bytes k zero x none here lt = absurd (omega arith)
below_ok read bytes k (suc n) x none here lt =
    elim (less_or k n lt) [
      | inl low ↦ ap (λ r. or_else r (read n bytes)) (below_ok read bytes k n x none here low)
      | inr e ↦ let a : first_below read n bytes ≡ Err Dead = ap (λ i. first_below read i bytes) (sym e) ∙ none in let b : read n bytes ≡ Ok x = ap (λ i. read i bytes) (sym e) ∙ here in rw a b
    ]

pub below_more : {X : Type 0} (read : ℕ → Reader X) (bytes : List ℕ) (k n : ℕ) → first_below read k bytes ≡ Err Dead → read k bytes ≡ Err More → k < n → first_below read n bytes ≡ Err More
below_more read bytes k zero none here lt = absurd (omega arith)
below_more read bytes k (suc n) none here lt =
    elim (less_or k n lt) [
      | inl low ↦ ap (λ r. or_else r (read n bytes)) (below_more read bytes k n none here low)
      | inr e ↦ let a : first_below read n bytes ≡ Err Dead = ap (λ i. first_below read i bytes) (sym e) ∙ none in let b : read n bytes ≡ Err More = ap (λ i. read i bytes) (sym e) ∙ here in rw a b
    ]

-- one more that can't read
pub below_dead : {X : Type 0} (read : ℕ → Reader X) (bytes : List ℕ) (k n : ℕ) → n ≡ k + 1 → first_below read k bytes ≡ Err Dead → read k bytes ≡ Err Dead → first_below read n bytes ≡ Err Dead
below_dead read bytes k n e none here =
    let next : n ≡ suc k = omega arith in
    ap (λ i. first_below read i bytes) next ∙ ap (λ r. or_else r (read k bytes)) none ∙ here

pub other_false : (a b : Bool) → (a && b) ≡ false → a ≡ true → b ≡ false
other_false true b h e = h
other_false false b h e = absurd (cc)

one_true : (a b : Bool) → (a || b) ≡ true → (a ≡ true) ⊎ (b ≡ true)
one_true true b h = inl refl
one_true false b h = inr h

none_true : (a b : Bool) → (a || b) ≡ false → (a ≡ false) × (b ≡ false)
none_true true b h = absurd (cc)
none_true false b h = (refl, h)

pub some_below : (may : ℕ → Bool) (n : ℕ) → any_below may n ≡ true → (i : ℕ) × (i < n) × (may i ≡ true)
some_below may zero h = absurd (cc)
some_below may (suc n) h =
    elim (one_true (any_below may n) (may n) h) [
      | inl p ↦ let r = some_below may n p in (r.0, omega (arith, r.1), r.2)
      | inr p ↦ (n, omega arith, p)
    ]

pub none_below : (may : ℕ → Bool) (n i : ℕ) → any_below may n ≡ false → i < n → may i ≡ true → ⊥
none_below may zero i h lt stands = omega arith
none_below may (suc n) i h lt stands =
    let none = none_true (any_below may n) (may n) h in
    elim (eqb_tells i n) [
      | inl p ↦ false≢true (sym none.1 ∙ ap may (sym p.1) ∙ stands)
      | inr p ↦ none_below may n i none.0 (less i n lt p.1) stands
    ]

pub not_no : (b : Bool) → (b ≡ false → ⊥) → b ≡ true
not_no true never = refl
not_no false never = absurd (never refl)

pub some_found : (may : ℕ → Bool) (k n : ℕ) → k < n → may k ≡ true → true ≡ any_below may n
some_found may k n lt stands = sym (not_no (any_below may n) (λ none. none_below may n k none lt stands))
