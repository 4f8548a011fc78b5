-- Numbers of any size, read exactly.
use Rattle.std.proofs.Common.{◌≡◌, ◌⊎◌, ℕ, zero, suc, ◌+◌, ◌-◌, ◌*◌, ◌/◌, ◌%◌, ◌^◌, ◌<◌, ◌≤◌, inl, inr, List, [], ◌∷◌, ◌++◌, length, refl, ap, sym, subst, ◌∙◌, append_assoc, append-nil, true, false, Ok, Err, arith, rules, tests}
use Rattle.std.proofs.lemmas.Bool.{eqb-true, eq-eqb, ne_eqb}
use Rattle.std.specs.List.{AllByRecursion}
use Rattle.std.proofs.lemmas.Bool.Decides.{nat_tests}
use Rattle.std.proofs.lemmas.Fmt.{decimal_by_steps}
use Rattle.std.specs.Prelude.{◌==◌, nat_lt, decimal}
use Rattle.exact_text.specs.declared.stop.Stop.TheVariants.{More, Dead}
use Rattle.exact_text.proofs.Words.{chosen}
use Rattle.exact_text.proofs.CodeLaws.{ok_injective}
use Rattle.exact_text.specs.Codes.{IsCode}
use Rattle.index_text.specs.Numerals.{digits_in, numeral, is_digit, is_leading, digits_from, leading_at, numeral_at}

-- one digit, or one more after those of a tenth
in_one : (turns n : ℕ) → n < 10 → digits_in (suc turns) n ≡ (48 + n) ∷ []
unfolding digits_in
in_one turns n small = let t : nat_lt n 10 ≡ true = grind (arith, nat_tests) in rw t refl

in_more : (turns n : ℕ) → 10 ≤ n → digits_in (suc turns) n ≡ digits_in turns (n / 10) ++ (48 + n % 10) ∷ []
unfolding digits_in
in_more turns n large = let t : nat_lt n 10 ≡ false = grind (arith, nat_tests) in rw t refl

either_size : (n : ℕ) → (n < 10) ⊎ (10 ≤ n)
either_size n = grind (arith, nat_tests)

-- more turns than are needed change nothing
in_enough : (j k n : ℕ) → n < j → n < k → digits_in j n ≡ digits_in k n
in_enough zero k n p q = absurd (omega (arith, p))
in_enough (suc j) zero n p q = absurd (omega (arith, q))
in_enough (suc j) (suc k) n p q = elim (either_size n) [
  | inl small ↦ in_one j n small ∙ sym (in_one k n small)
  | inr large ↦ in_more j n large ∙ ap (λ l. l ++ (48 + n % 10) ∷ []) (in_enough j k (n / 10) (omega (arith, p, large)) (omega (arith, q, large))) ∙ sym (in_more k n large)
]

pub numeral_digit : (n : ℕ) → n < 10 → numeral n ≡ (48 + n) ∷ []
unfolding numeral
numeral_digit n small = in_one n n small

pub numeral_step : (n : ℕ) → 10 ≤ n → numeral n ≡ numeral (n / 10) ++ (48 + n % 10) ∷ []
unfolding numeral
numeral_step n large = in_more n n large ∙ ap (λ l. l ++ (48 + n % 10) ∷ []) (in_enough n (suc (n / 10)) (n / 10) (omega (arith, large)) (omega arith))

module _ (P : ℕ → List ℕ → Type 0) (one : (n : ℕ) → n < 10 → P n ((48 + n) ∷ [])) (more : (n : ℕ) (ds : List ℕ) → 10 ≤ n → P (n / 10) ds → P n (ds ++ (48 + n % 10) ∷ [])) where
  by : (k n : ℕ) → n ≤ k → P n (numeral n)
  by zero n le = subst (P n) (sym (numeral_digit n (omega (arith, le)))) (one n (omega (arith, le)))
  by (suc k) n le = elim (either_size n) [
    | inl small ↦ subst (P n) (sym (numeral_digit n small)) (one n small)
    | inr large ↦ subst (P n) (sym (numeral_step n large)) (more n (numeral (n / 10)) large (by k (n / 10) (omega (arith, le, large))))
  ]

  -- one digit, then one more at the end
  pub numeral_by_steps : (n : ℕ) → P n (numeral n)
  numeral_by_steps n = by n n (omega arith)

-- what is printed of a number of 64 bits
pub numeral_printed : (n : ℕ) → n < 2 ^ 64 → numeral n ≡ decimal n
numeral_printed n fits = decimal_by_steps (λ m ds. numeral m ≡ ds) numeral_digit (λ m ds large h. numeral_step m large ∙ ap (λ l. l ++ (48 + m % 10) ∷ []) h) n fits

pub is_digit-facts : (c : ℕ) → is_digit c ≡ true → (48 ≤ c) × (c ≤ 57)
is_digit-facts c e = search (rules, tests)

is_digit-from : (c : ℕ) → 48 ≤ c → c ≤ 57 → is_digit c ≡ true
is_digit-from c a b = search (rules, tests)

first-facts : (c : ℕ) → is_leading c ≡ true → (49 ≤ c) × (c ≤ 57)
first-facts c e = search (rules, tests)

first-from : (c : ℕ) → 49 ≤ c → c ≤ 57 → is_leading c ≡ true
first-from c a b = search (rules, tests)

numeral_more : (v c : ℕ) → 0 < v → 48 ≤ c → c ≤ 57 → numeral (10 * v + (c - 48)) ≡ numeral v ++ c ∷ []
numeral_more v c some low high =
    let n = 10 * v + (c - 48) in
    let q : n / 10 ≡ v = omega arith in
    let r : 48 + n % 10 ≡ c = omega arith in
    numeral_step n (omega arith) ∙ ap (λ m. numeral m ++ (48 + n % 10) ∷ []) q ∙ ap (λ d. numeral v ++ d ∷ []) r

first_digit : (c : ℕ) → 48 ≤ c → c ≤ 57 → numeral (c - 48) ≡ c ∷ []
first_digit c low high = let e : 48 + (c - 48) ≡ c = omega arith in numeral_digit (c - 48) (omega arith) ∙ ap (λ d. d ∷ []) e

from_found : (stop v : ℕ) (bytes rest : List ℕ) (w : ℕ) → 0 < v → digits_from stop v bytes ≡ Ok (w, rest) → (0 < w) × (numeral v ++ bytes ≡ numeral w ++ stop ∷ rest)
from_found stop v [] rest w some e = absurd (cc)
from_found stop v (c ∷ bytes) rest w some e =
    elim (chosen (c == stop) _ _ _ e) [
      | inl p ↦
          let h = eqb-true c stop p.0 in
          let q = ok_injective p.1 in
          let same : v ≡ w = ap (λ x. x.0) q in
          let after : bytes ≡ rest = ap (λ x. x.1) q in
          (omega (arith, some, same), let x : numeral v ≡ numeral w = ap numeral same in cc)
      | inr p ↦
          elim (chosen (is_digit c) _ _ _ p.1) [
            | inl q ↦
                let f = is_digit-facts c q.0 in
                let ih = from_found stop (10 * v + (c - 48)) bytes rest w (omega (arith, some)) q.1 in
                let d = numeral_more v c some f.0 f.1 in
                (ih.0, sym (append_assoc (numeral v) (c ∷ []) bytes) ∙ ap (λ l. l ++ bytes) (sym d) ∙ ih.1)
            | inr q ↦ let h = q.1 in absurd (cc)
          ]
    ]

from_more : (stop v : ℕ) (bytes : List ℕ) → 0 < v → digits_from stop v bytes ≡ Err More → (w : ℕ) × (0 < w) × (numeral v ++ bytes ≡ numeral w)
from_more stop v [] some e = (v, some, append-nil (numeral v))
from_more stop v (c ∷ bytes) some e =
    elim (chosen (c == stop) _ _ _ e) [
      | inl p ↦ let h = p.1 in absurd (cc)
      | inr p ↦
          elim (chosen (is_digit c) _ _ _ p.1) [
            | inl q ↦
                let f = is_digit-facts c q.0 in
                let ih = from_more stop (10 * v + (c - 48)) bytes (omega (arith, some)) q.1 in
                let d = numeral_more v c some f.0 f.1 in
                (ih.0, ih.1, sym (append_assoc (numeral v) (c ∷ []) bytes) ∙ ap (λ l. l ++ bytes) (sym d) ∙ ih.2)
            | inr q ↦ let h = q.1 in absurd (cc)
          ]
    ]

-- digits after the beginning of a number go on with it
abbrev pub Digits : List ℕ → Type 0
Digits ds = AllByRecursion (λ b. is_digit b ≡ true) ds

from_goes : (stop : ℕ) → stop < 48 → (v : ℕ) (ds more : List ℕ) → digits_from stop v ds ≡ Err More → Digits more → digits_from stop v (ds ++ more) ≡ Err More
from_goes stop low v [] [] e d = refl
from_goes stop low v [] (c ∷ more) e d =
    let f = is_digit-facts c d.0 in
    let apart : (c == stop) ≡ false = ne_eqb c stop (λ h. omega (arith, h, f.0, low)) in
    rw (apart, d.0) (from_goes stop low (10 * v + (c - 48)) [] more refl d.1)
from_goes stop low v (c ∷ ds) more e d =
    elim (chosen (c == stop) _ _ _ e) [
      | inl p ↦ let h = p.1 in absurd (cc)
      | inr p ↦
          elim (chosen (is_digit c) _ _ _ p.1) [
            | inl q ↦ rw (p.0, q.0) (from_goes stop low (10 * v + (c - 48)) ds more q.1 d)
            | inr q ↦ let h = q.1 in absurd (cc)
          ]
    ]

pub numeral_goes : (stop : ℕ) → stop < 48 → (ds more : List ℕ) → 0 < length ds → numeral_at stop ds ≡ Err More → Digits more → numeral_at stop (ds ++ more) ≡ Err More
numeral_goes stop low [] more some e d = absurd (omega (arith, some))
numeral_goes stop low (c ∷ ds) more some e d =
    elim (chosen (is_leading c) _ _ _ e) [
      | inl p ↦ rw p.0 (from_goes stop low (c - 48) ds more p.1 d)
      | inr p ↦ let h = p.1 in absurd (cc)
    ]

from_dead : (stop v : ℕ) (bytes more : List ℕ) → digits_from stop v bytes ≡ Err Dead → digits_from stop v (bytes ++ more) ≡ Err Dead
from_dead stop v [] more e = absurd (cc)
from_dead stop v (c ∷ bytes) more e =
    elim (chosen (c == stop) _ _ _ e) [
      | inl p ↦ let h = p.1 in absurd (cc)
      | inr p ↦
          elim (chosen (is_digit c) _ _ _ p.1) [
            | inl q ↦ rw (p.0, q.0) (from_dead stop (10 * v + (c - 48)) bytes more q.1)
            | inr q ↦ rw (p.0, q.0) refl
          ]
    ]

-- after the digits of n the rest of the number is read
abbrev Resumes : ℕ → ℕ → List ℕ → Type 0
Resumes stop n ds = 1 ≤ n → (tail : List ℕ) → numeral_at stop (ds ++ tail) ≡ digits_from stop n tail

resumes_one : (stop n : ℕ) → n < 10 → Resumes stop n ((48 + n) ∷ [])
resumes_one stop n small low tail =
    let d : 48 + n - 48 ≡ n = omega arith in
    rw (first-from (48 + n) (omega arith) (omega arith), d) refl

resumes_more : (stop : ℕ) → stop < 48 → (n : ℕ) (ds : List ℕ) → 10 ≤ n → Resumes stop (n / 10) ds → Resumes stop n (ds ++ (48 + n % 10) ∷ [])
resumes_more stop apart n ds large before low tail =
    let c = 48 + n % 10 in
    let n' : 10 * (n / 10) + (c - 48) ≡ n = omega arith in
    let go : is_digit c ≡ true = is_digit-from c (omega arith) (omega arith) in
    let no : (c == stop) ≡ false = grind (arith, nat_tests) in
    ap (numeral_at stop) (append_assoc ds (c ∷ []) tail) ∙ before (omega arith) (c ∷ tail) ∙ rw (no, go, n') refl

numeral_again : (stop : ℕ) → stop < 48 → (n : ℕ) (rest : List ℕ) → 1 ≤ n → numeral_at stop ((numeral n ++ stop ∷ []) ++ rest) ≡ Ok (n, rest)
numeral_again stop apart n rest some =
    let r : Resumes stop n (numeral n) = numeral_by_steps (Resumes stop) (resumes_one stop) (resumes_more stop apart) n in
    ap (numeral_at stop) (append_assoc (numeral n) (stop ∷ []) rest) ∙ r some (stop ∷ rest) ∙ rw (eq-eqb stop stop refl) refl

numeral_found : (stop : ℕ) (bytes rest : List ℕ) (n : ℕ) → numeral_at stop bytes ≡ Ok (n, rest) → (1 ≤ n) × (bytes ≡ (numeral n ++ stop ∷ []) ++ rest)
numeral_found stop [] rest n e = absurd (cc)
numeral_found stop (c ∷ bytes) rest n e =
    elim (chosen (is_leading c) _ _ _ e) [
      | inl p ↦
          let f = first-facts c p.0 in
          let g = from_found stop (c - 48) bytes rest n (omega (arith, f.0)) p.1 in
          let d = first_digit c (omega (arith, f.0)) f.1 in
          (omega (arith, g.0), ap (λ l. l ++ bytes) (sym d) ∙ g.1 ∙ sym (append_assoc (numeral n) (stop ∷ []) rest))
      | inr p ↦ let h = p.1 in absurd (cc)
    ]

numeral_asks : (stop : ℕ) (bytes : List ℕ) → numeral_at stop bytes ≡ Err More → (n : ℕ) × (rest : List ℕ) × (1 ≤ n) × (bytes ++ rest ≡ numeral n ++ stop ∷ [])
numeral_asks stop [] e = (1, numeral 1 ++ stop ∷ [], omega arith, refl)
numeral_asks stop (c ∷ bytes) e =
    elim (chosen (is_leading c) _ _ _ e) [
      | inl p ↦
          let f = first-facts c p.0 in
          let g = from_more stop (c - 48) bytes (omega (arith, f.0)) p.1 in
          let d = first_digit c (omega (arith, f.0)) f.1 in
          (g.0, stop ∷ [], omega (arith, g.1), ap (λ l. l ++ stop ∷ []) (ap (λ l. l ++ bytes) (sym d) ∙ g.2))
      | inr p ↦ let h = p.1 in absurd (cc)
    ]

numeral_dead : (stop : ℕ) (bytes more : List ℕ) → numeral_at stop bytes ≡ Err Dead → numeral_at stop (bytes ++ more) ≡ Err Dead
numeral_dead stop [] more e = absurd (cc)
numeral_dead stop (c ∷ bytes) more e =
    elim (chosen (is_leading c) _ _ _ e) [
      | inl p ↦ rw p.0 (from_dead stop (c - 48) bytes more p.1)
      | inr p ↦ rw p.0 refl
    ]

pub numeral_code : (stop : ℕ) → stop < 48 → IsCode (λ n. 1 ≤ n) (λ n. numeral n ++ stop ∷ []) (numeral_at stop)
numeral_code stop apart = record {
  found = numeral_found stop;
  again = numeral_again stop apart;
  more = numeral_asks stop;
  dead = numeral_dead stop;
}

-- a number that begins with this digit
pub record IsLed (stop v : ℕ) (bytes rest : List ℕ) : Type 0 where
  pub small : v < 10
  pub same : digits_from stop v rest ≡ numeral_at stop bytes

pub led : (stop v : ℕ) (bytes rest : List ℕ) → leading_at bytes ≡ Ok (v, rest) → IsLed stop v bytes rest
led stop v [] rest e = absurd (cc)
led stop v (c ∷ bytes) rest e =
    elim (chosen (is_leading c) _ _ _ e) [
      | inl p ↦
          let f = first-facts c p.0 in
          let q = ok_injective p.1 in
          let same : c - 48 ≡ v = ap (λ x. x.0) q in
          let after : bytes ≡ rest = ap (λ x. x.1) q in
          record {
            small = omega (arith, f.1, same);
            same = rw p.0 (λ i. digits_from stop (sym same i) (sym after i));
          }
      | inr p ↦ let h = p.1 in absurd (cc)
    ]
