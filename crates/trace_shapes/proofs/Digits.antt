-- The table of short numbers has their digits.
use Rattle.std.proofs.Common.{◌≡◌, ℕ, zero, suc, ◌+◌, ◌*◌, ◌/◌, ◌%◌, ◌<◌, ◌≤◌, Bool, true, false, cond, ◌&&◌, T, eqb, eqb→eq, List, [], ◌∷◌, ◌++◌, length, length-append, take, drop, refl, ap, sym, subst, ◌∙◌, append_assoc, arith}
use Rattle.std.specs.Prelude.{nat_lt}
use Rattle.std.specs.Fmt.{decimal}
use Rattle.std.proofs.lemmas.Bool.{cond_both}
use Rattle.std.proofs.lemmas.Bool.Decides.{nat_tests}
use Rattle.std.proofs.lemmas.Fmt.{decimal_digit, decimal_step}
use Rattle.std.proofs.lemmas.List.{take-append-drop, take-take, take_at, drop-drop, length-take-le, length-drop}
use lib.Ieee.Fits.{and_l, and_r}
use Rattle.trace_shapes.specs.declared.numbers.TheConstants.{SHORT}

abbrev same_list : List ℕ → List ℕ → Bool
same_list [] [] = true
same_list [] (y ∷ ys) = false
same_list (x ∷ xs) [] = false
same_list (x ∷ xs) (y ∷ ys) = eqb x y && same_list xs ys

-- the digits of a number of at most k
abbrev few : ℕ → ℕ → List ℕ
few zero n = []
few (suc k) n = cond (nat_lt n 10) ((48 + n) ∷ []) (few k (n / 10) ++ (48 + n % 10) ∷ [])

few-step : (k n : ℕ) → n < 10000 → (10 ≤ n → few k (n / 10) ≡ decimal (n / 10)) → few (suc k) n ≡ decimal n
few-step k n fits h =
    cond_both (nat_lt n 10) ((48 + n) ∷ []) (few k (n / 10) ++ (48 + n % 10) ∷ []) (λ y. y ≡ decimal n)
    (λ e. sym (decimal_digit n (is_less n 10 e)))
    (λ e. ap (λ l. l ++ (48 + n % 10) ∷ []) (h (is_not_less n 10 e)) ∙ sym (decimal_step n (is_not_less n 10 e) (omega arith)))
  where
    is_less : (i k : ℕ) → nat_lt i k ≡ true → i < k
    is_less i k e = grind (arith, nat_tests)

    is_not_less : (i k : ℕ) → nat_lt i k ≡ false → k ≤ i
    is_not_less i k e = grind (arith, nat_tests)

few_is : (n : ℕ) → n < 10000 → few 4 n ≡ decimal n
few_is n h = few-step 3 n h (λ a. few-step 2 (n / 10) (omega arith) (λ b. few-step 1 (n / 10 / 10) (omega arith) (λ c. few-step 0 (n / 10 / 10 / 10) (omega arith) (λ d. absurd (omega arith)))))

-- four bytes each, the list begins with the digits of the next `many` numbers from n
abbrev spells : ℕ → ℕ → List ℕ → Bool
spells zero n xs = true
spells (suc many) n xs = same_list (take (length (few 4 n)) xs) (few 4 n) && spells many (suc n) (drop 4 xs)

lists : (xs ys : List ℕ) → T (same_list xs ys) → xs ≡ ys
lists [] [] t = refl
lists [] (y ∷ ys) t = absurd t
lists (x ∷ xs) [] t = absurd t
lists (x ∷ xs) (y ∷ ys) t = λ i. eqb→eq x y (and_l (eqb x y) (same_list xs ys) t) i ∷ lists xs ys (and_r (eqb x y) (same_list xs ys) t) i

spelled : (many n : ℕ) (xs : List ℕ) → T (spells many n xs) → (k j : ℕ) (ys : List ℕ) → k < many → j ≡ n + k → ys ≡ drop (4 * k) xs → take (length (few 4 j)) ys ≡ few 4 j
spelled zero n xs t k j ys h ej ey = absurd (omega arith)
spelled (suc many) n xs t zero j ys h ej ey =
    let same : j ≡ n = omega arith in
    let here : ys ≡ xs = ey in
    let first = lists _ _ (and_l (same_list (take (length (few 4 n)) xs) (few 4 n)) (spells many (suc n) (drop 4 xs)) t) in
    ap (λ i. take (length (few 4 i)) ys) same ∙ ap (take (length (few 4 n))) here ∙ first ∙ ap (few 4) (sym same)
spelled (suc many) n xs t (suc k) j ys h ej ey =
    let apart : 4 * suc k ≡ 4 + 4 * k = omega arith in
    spelled many (suc n) (drop 4 xs) (and_r (same_list (take (length (few 4 n)) xs) (few 4 n)) (spells many (suc n) (drop 4 xs)) t) k j ys (omega arith) (omega arith) (ey ∙ ap (λ i. drop i xs) apart ∙ sym (drop-drop (4 * k) 4 xs))

pub short_at : (n : ℕ) → n < 1300 → take (length (decimal n)) (drop (4 * n) SHORT) ≡ decimal n
short_at n h = subst (λ (t : List ℕ). take (length t) (drop (4 * n) SHORT) ≡ t) (few_is n (omega arith)) (spelled 1300 0 SHORT tt n n (drop (4 * n) SHORT) h (omega arith) refl)

-- the first bytes of a piece stay
pub cut_short : (new before piece text : List ℕ) (at d : ℕ) → length before ≡ at → d ≡ length text → d ≤ 4 → take d piece ≡ text → take (at + 4) new ≡ before ++ piece → take (at + d) new ≡ before ++ text
cut_short new before piece text at d size count few is e =
    let whole : take (at + 4) new ≡ (before ++ text) ++ drop d piece =
    e ∙ ap (λ l. before ++ l) (sym (take-append-drop d piece) ∙ ap (λ l. l ++ drop d piece) is) ∙ sym (append_assoc before text (drop d piece))
    in
    let here : length (before ++ text) ≡ at + d = omega (arith, length-append before text) in
    sym (take-take (at + d) (at + 4) new (omega arith)) ∙ ap (take (at + d)) whole ∙ take_at (before ++ text) (drop d piece) (at + d) here

-- the four bytes of a number
pub length-entry : (n : ℕ) → n < 1300 → length (take 4 (drop (4 * n) SHORT)) ≡ 4
length-entry n h =
    let size : length SHORT ≡ 5200 = refl in
    length-take-le 4 (drop (4 * n) SHORT) (omega (arith, length-drop (4 * n) SHORT, size))
