-- What several pieces add one after another.
use Rattle.std.proofs.Common.{◌≡◌, ℕ, zero, suc, ◌+◌, ◌-◌, ◌≤◌, List, [], ◌∷◌, ◌++◌, length, length-append, take, refl, ap, sym, ◌∙◌, append_assoc, add-one, arith}
use Rattle.std.proofs.lemmas.List.{length-take-le}
use Rattle.std.proofs.Math.Seq.{take-append_seam}
use Rattle.trace_shapes.specs.Shapes.{each_below}

-- all but the last byte of what was added
pub cut_last : (buf before text : List ℕ) (end c : ℕ) → end ≤ length buf → take end buf ≡ before ++ (text ++ c ∷ []) → take (end - 1) buf ≡ before ++ text
cut_last buf before text end c le e =
    let all = before ++ text in
    let whole : take end buf ≡ all ++ c ∷ [] = e ∙ sym (append_assoc before text (c ∷ [])) in
    let size : end - 1 ≡ length all = omega (arith, sym (length-take-le end buf le) ∙ ap length whole, length-append all (c ∷ [])) in
    shorter end buf (end - 1) (omega arith) ∙ ap (take (end - 1)) whole ∙ ap (λ n. take n (all ++ c ∷ [])) size ∙ take-append_seam all (c ∷ [])
  where
    shorter : (n : ℕ) (xs : List ℕ) (k : ℕ) → k ≤ n → take k xs ≡ take k (take n xs)
    shorter n [] zero h = refl
    shorter zero [] (suc k) h = refl
    shorter (suc n) [] (suc k) h = refl
    shorter n (x ∷ xs) zero h = refl
    shorter zero (x ∷ xs) (suc k) h = absurd (omega arith)
    shorter (suc n) (x ∷ xs) (suc k) h = ap (λ l. x ∷ l) (shorter n xs k (omega arith))

-- one more of the texts of the numbers below a bound
pub each_more : (f : ℕ → List ℕ) (n : ℕ) → each_below f (n + 1) ≡ each_below f n ++ f n
unfolding each_below
each_more f n = rw add-one refl

pub each_none : (f : ℕ → List ℕ) → each_below f 0 ≡ []
unfolding each_below
each_none f = refl

pub added_two : (old mid new p q : List ℕ) → mid ≡ old ++ p → new ≡ mid ++ q → new ≡ old ++ (p ++ q)
added_two old mid new p q e f = f ∙ ap (λ l. l ++ q) e ∙ append_assoc old p q

pub added_more : (old mid new p q all : List ℕ) → mid ≡ old ++ p → new ≡ mid ++ q → p ++ q ≡ all → new ≡ old ++ all
added_more old mid new p q all e f g = added_two old mid new p q e f ∙ ap (λ l. old ++ l) g

module _ (old a b c : List ℕ) (p q r s t : List ℕ) (one : a ≡ old ++ p) (two : b ≡ a ++ q) (three : c ≡ b ++ r) where
  pub added_three : c ≡ old ++ (p ++ q ++ r)
  added_three = added_two old b c (p ++ q) r (added_two old a b p q one two) three

  pub added_four : (d : List ℕ) → d ≡ c ++ s → d ≡ old ++ (p ++ q ++ r ++ s)
  added_four d four = added_two old c d (p ++ q ++ r) s added_three four

  pub added_five : (d e : List ℕ) → d ≡ c ++ s → e ≡ d ++ t → e ≡ old ++ (p ++ q ++ r ++ s ++ t)
  added_five d e four five = added_two old d e (p ++ q ++ r ++ s) t (added_four d four) five

  pub added_six : (d e f u : List ℕ) → d ≡ c ++ s → e ≡ d ++ t → f ≡ e ++ u → f ≡ old ++ (p ++ q ++ r ++ s ++ t ++ u)
  added_six d e f u four five six = added_two old e f (p ++ q ++ r ++ s ++ t) u (added_five d e four five) six
