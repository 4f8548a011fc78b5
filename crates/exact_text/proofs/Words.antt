-- Reading a word.
use Rattle.std.proofs.Common.{◌≡◌, ℕ, suc, ◌+◌, get_or, ap, sym, ◌∙◌, arith, ◌<◌, ◌≤◌, ◌⊎◌, inl, inr, List, [], ◌∷◌, ◌++◌, length, drop, refl, Bool, true, false, cond, Ok, Err}
use Rattle.std.proofs.Math.Seq.{drop-cons}
use Rattle.std.proofs.lemmas.Bool.{eqb-true, eq-eqb}
use Rattle.std.proofs.lemmas.List.{drop_all, drop_more}
use Rattle.std.specs.Prelude.{◌==◌}
use Rattle.exact_text.specs.declared.stop.Stop.TheVariants.{More, Dead}
use Rattle.exact_text.specs.Reading.{word_at}

-- which branch gave the result
pub chosen : {A : Type 0} (b : Bool) (x y z : A) → cond b x y ≡ z → ((b ≡ true) × (x ≡ z)) ⊎ ((b ≡ false) × (y ≡ z))
chosen true x y z e = inl (refl, e)
chosen false x y z e = inr (refl, e)

-- bytes that end within the word
pub word_at-short : (word bytes : List ℕ) (i : ℕ) → i < length word → length bytes ≤ i → word_at (drop i word) (drop i bytes) ≡ Err More
word_at-short word bytes i l s = rw (drop_all i bytes s, drop_more word i 0 l) refl

pub word_at-found : (word bytes rest : List ℕ) → word_at word bytes ≡ Ok rest → bytes ≡ word ++ rest
word_at-found [] bytes rest e = cc
word_at-found (w ∷ word) [] rest e = absurd (cc)
word_at-found (w ∷ word) (c ∷ bytes) rest e =
    elim (chosen (c == w) _ _ _ e) [
      | inl p ↦ let h = eqb-true c w p.0 in let ih = word_at-found word bytes rest p.1 in cc
      | inr p ↦ absurd (cc)
    ]

pub word_at-again : (word rest : List ℕ) → word_at word (word ++ rest) ≡ Ok rest
word_at-again [] rest = refl
word_at-again (w ∷ word) rest = rw (eq-eqb w w refl) (word_at-again word rest)

pub word_at-more : (word bytes : List ℕ) → word_at word bytes ≡ Err More → (rest : List ℕ) × (bytes ++ rest ≡ word)
word_at-more [] bytes e = absurd (cc)
word_at-more (w ∷ word) [] e = (w ∷ word, refl)
word_at-more (w ∷ word) (c ∷ bytes) e =
    elim (chosen (c == w) _ _ _ e) [
      | inl p ↦ let h = eqb-true c w p.0 in let ih = word_at-more word bytes p.1 in (ih.0, let k = ih.1 in cc)
      | inr p ↦ absurd (cc)
    ]

pub word_at-dead : (word bytes more : List ℕ) → word_at word bytes ≡ Err Dead → word_at word (bytes ++ more) ≡ Err Dead
word_at-dead [] bytes more e = absurd (cc)
word_at-dead (w ∷ word) [] more e = absurd (cc)
word_at-dead (w ∷ word) (c ∷ bytes) more e =
    elim (chosen (c == w) _ _ _ e) [
      | inl p ↦ rw p.0 (word_at-dead word bytes more p.1)
      | inr p ↦ rw p.0 refl
    ]

one_byte : (w b : ℕ) (word bytes : List ℕ) → b ≡ w → word_at (w ∷ word) (b ∷ bytes) ≡ word_at word bytes
one_byte w b word bytes e = rw (eq-eqb b w e) refl

-- one more byte that is the word's
pub word_step : (word bytes : List ℕ) (i : ℕ) → i < length word → i < length bytes → get_or bytes i 0 ≡ get_or word i 0 → word_at (drop (i + 1) word) (drop (i + 1) bytes) ≡ word_at (drop i word) (drop i bytes)
word_step word bytes i lw lb e =
    let next : suc i ≡ i + 1 = omega arith in
    sym (ap (λ x. word_at x (drop i bytes)) (drop-cons word i 0 lw) ∙ ap (word_at (get_or word i 0 ∷ drop (suc i) word)) (drop-cons bytes i 0 lb) ∙ one_byte (get_or word i 0) (get_or bytes i 0) (drop (suc i) word) (drop (suc i) bytes) e ∙ ap (λ n. word_at (drop n word) (drop n bytes)) next)
