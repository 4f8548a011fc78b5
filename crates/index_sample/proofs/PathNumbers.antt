-- The number after the last letter of a path.
use Rattle.std.proofs.Common.{◌≡◌, ◌≢◌, ℕ, ◌+◌, ◌<◌, ◌≤◌, ◌^◌, ◌%◌, List, [], ◌∷◌, ◌++◌, length, get_or, sym, ◌∙◌, ap, subst, arith, ◌⊎◌, inl, inr, length-append, nat_eq}
use Rattle.std.specs.Prelude.{MatchOption, Option, Some, None, take, drop, decimal}
use Rattle.std.specs.Borrow.{Bor}
use Rattle.std.specs.List.{All}
use Rattle.std.specs.Str.{NoCharPasses}
use Rattle.std.specs.Str.Pattern.{RFindsChar}
use Rattle.std.proofs.lemmas.Fmt.{decimal_by_steps}
use Rattle.std.proofs.lemmas.Str.Pattern.{NoCharPasses-char, drop_at_char}
use Rattle.std.proofs.lemmas.List.{get_or_default, take-append-drop}
use Rattle.std.proofs.lemmas.List.Elements.{All-append, All-cons, All-nil}
use Rattle.std.proofs.lemmas.Grind.{common_steps}

-- no digit is a letter
pub letterless : (c n : ℕ) → 57 < c → n < 2 ^ 64 → All (λ b. b ≢ c) (decimal n)
letterless c n high = decimal_by_steps (λ n ds. All (λ b. b ≢ c) ds)
    (λ n small. All-cons (λ b. b ≢ c) (48 + n) [] (λ e. omega (arith, e, high)) (All-nil (λ b. b ≢ c)))
    (λ n ds big prefix. All-append (λ b. b ≢ c) ds ((48 + n % 10) ∷ []) prefix (All-cons (λ b. b ≢ c) (48 + n % 10) [] (λ e. omega (arith, e, high)) (All-nil (λ b. b ≢ c)))) n

letter_at : (c : ℕ) (e m : List ℕ) → get_or (e ++ c ∷ m) (length e) 0 ≡ c
letter_at c e m = grind (arith, common_steps)

-- a text without the letter isn't one with it
pub no_letter : (c : ℕ) (n e m : List ℕ) → n ≡ e ++ c ∷ m → All (λ b. b ≢ c) n → ⊥
no_letter c n e m same plain =
    let shorter : length e < length n = omega (arith, ap length same, length-append e (c ∷ m)) in
    plain (length e) 0 shorter (ap (λ s. get_or s (length e) 0) same ∙ letter_at c e m)

-- two texts without the letter that stand after it are the same
pub same_end : (c : ℕ) (d e n m : List ℕ) → d ++ c ∷ n ≡ e ++ c ∷ m → All (λ b. b ≢ c) n → All (λ b. b ≢ c) m → n ≡ m
same_end c [] [] n m same first second = cc
same_end c [] (y ∷ e) n m same first second = absurd (no_letter c n e m (cc) first)
same_end c (x ∷ d) [] n m same first second = absurd (no_letter c m d n (cc) second)
same_end c (x ∷ d) (y ∷ e) n m same first second =
    let tails : d ++ c ∷ n ≡ e ++ c ∷ m = cc in
    same_end c d e n m tails first second

pub letterless-chars : (c : ℕ) (bs : List ℕ) → c < 128 → NoCharPasses (λ b. nat_eq b c) bs → All (λ b. b ≢ c) bs
letterless-chars c bs low none k d within same =
    NoCharPasses-char c bs k none low within (get_or_default bs k 0 d within ∙ same)

-- what the clause of `rsplit_once` at the letter says of the two parts
pub split_parts : (c : ℕ) (bs : List ℕ) (r : Option (Bor (List ℕ) × Bor (List ℕ))) → c < 128
    → MatchOption r (RFindsChar c bs None) (λ x. (i : ℕ) × (j : ℕ) × RFindsChar c bs (Some (i, j)) × (x.0.now ≡ take i bs) × (x.1.now ≡ drop j bs) × (i ≤ j) × (length x.0.now ≡ i) × (length x.1.now + j ≡ length bs))
    → MatchOption r (All (λ b. b ≢ c) bs) (λ p. (bs ≡ p.0.now ++ c ∷ p.1.now) × All (λ b. b ≢ c) p.1.now)
split_parts c bs None low h = letterless-chars c bs low h
split_parts c bs (Some x) low h = (
  sym (take-append-drop h.0 bs) ∙ (λ k. sym h.3 k ++ (drop_at_char c bs h.0 h.1 h.2.1 low ∙ ap (λ l. c ∷ l) (sym h.4)) k),
  letterless-chars c x.1.now low (subst (NoCharPasses (λ b. nat_eq b c)) (sym h.4) h.2.0),
)

-- the digits after the letter are those of the number that a path has there
pub digits_there : (c : ℕ) (bs prefix before digits : List ℕ) (n : ℕ) → 57 < c → n < 20000 → bs ≡ before ++ c ∷ digits → All (λ b. b ≢ c) digits → bs ≡ prefix ++ c ∷ decimal n → digits ≡ decimal n
digits_there c bs prefix before digits n high small split plain is =
    same_end c before prefix digits (decimal n) (sym split ∙ is) plain (letterless c n high (omega (arith, small)))

-- either letter is above the digits
pub letter_range : (c : ℕ) → (c ≡ 100) ⊎ (c ≡ 102) → (57 < c) × (c < 128)
letter_range c (inl e) = (omega (arith, e), omega (arith, e))
letter_range c (inr e) = (omega (arith, e), omega (arith, e))

pub none_some : (n : ℕ) → None ≡ Some n → ⊥
none_some n e = cc

pub some_same : (m n : ℕ) → Some m ≡ Some n → m ≡ n
some_same m n e = cc
