-- Reading a number.
use Rattle.std.proofs.Common.{◌≡◌, ℕ, ◌+◌, ◌-◌, ◌*◌, ◌/◌, ◌%◌, ◌^◌, ◌<◌, ◌≤◌, inl, inr, List, [], ◌∷◌, ◌++◌, refl, ap, sym, ◌∙◌, append_assoc, append-nil, true, false, Ok, Err, arith, rules, tests}
use Rattle.std.proofs.lemmas.Bool.{eqb-true, eq-eqb}
use Rattle.std.proofs.lemmas.Bool.Decides.{nat_tests}
use Rattle.std.proofs.lemmas.Fmt.{decimal_step, decimal_digit, decimal_by_steps}
use Rattle.std.specs.Prelude.{◌==◌, decimal}
use Rattle.exact_text.specs.declared.stop.Stop.TheVariants.{More, Dead}
use Rattle.exact_text.proofs.Words.{chosen}
use Rattle.exact_text.proofs.CodeLaws.{ok_injective}
use Rattle.exact_text.specs.Codes.{IsCode}
use Rattle.exact_text.specs.Reading.{digits_at, number_at, goes_on, begins}

pub goes_on-facts : (bound v c : ℕ) → goes_on bound v c ≡ true → (48 ≤ c) × (c ≤ 57) × (0 < v) × (10 * v + (c - 48) < bound)
goes_on-facts bound v c e = search (rules, tests)

pub goes_on-from : (bound v c : ℕ) → 48 ≤ c → c ≤ 57 → 0 < v → 10 * v + (c - 48) < bound → goes_on bound v c ≡ true
goes_on-from bound v c a b d e = search (rules, tests)

pub begins-facts : (least bound c : ℕ) → begins least bound c ≡ true → (48 ≤ c) × (c ≤ 57) × (least ≤ c - 48) × (c - 48 < bound)
begins-facts least bound c e = search (rules, tests)

pub begins-from : (least bound c : ℕ) → 48 ≤ c → c ≤ 57 → least ≤ c - 48 → c - 48 < bound → begins least bound c ≡ true
begins-from least bound c a b d e = search (rules, tests)

pub decimal_more : (v c : ℕ) → 0 < v → 48 ≤ c → c ≤ 57 → 10 * v + (c - 48) < 2 ^ 64 → decimal (10 * v + (c - 48)) ≡ decimal v ++ c ∷ []
decimal_more v c some low high fits =
    let n = 10 * v + (c - 48) in
    let q : n / 10 ≡ v = omega arith in
    let r : 48 + n % 10 ≡ c = omega arith in
    decimal_step n (omega arith) fits ∙ ap (λ m. decimal m ++ (48 + n % 10) ∷ []) q ∙ ap (λ d. decimal v ++ d ∷ []) r

first_digit : (c : ℕ) → 48 ≤ c → c ≤ 57 → decimal (c - 48) ≡ c ∷ []
first_digit c low high = let e : 48 + (c - 48) ≡ c = omega arith in decimal_digit (c - 48) (omega arith) ∙ ap (λ d. d ∷ []) e

pub digits_at-found : (bound stop : ℕ) → bound ≤ 2 ^ 64 → (v : ℕ) (bytes rest : List ℕ) (w : ℕ) → v < bound → digits_at bound stop v bytes ≡ Ok (w, rest)
    → (w < bound) × (v ≤ w) × (decimal v ++ bytes ≡ decimal w ++ stop ∷ rest)
digits_at-found bound stop fits v [] rest w l e = absurd (cc)
digits_at-found bound stop fits v (c ∷ bytes) rest w l e =
    elim (chosen (c == stop) _ _ _ e) [
      | inl p ↦
          let h = eqb-true c stop p.0 in
          let q = ok_injective p.1 in
          let same : v ≡ w = ap (λ x. x.0) q in
          let after : bytes ≡ rest = ap (λ x. x.1) q in
          (omega arith, omega arith, let x : decimal v ≡ decimal w = ap decimal same in cc)
      | inr p ↦
          elim (chosen (goes_on bound v c) _ _ _ p.1) [
            | inl q ↦
                let f = goes_on-facts bound v c q.0 in
                let ih = digits_at-found bound stop fits (10 * v + (c - 48)) bytes rest w f.3 q.1 in
                let d = decimal_more v c f.2 f.0 f.1 (omega arith) in
                (ih.0, omega (arith, ih.1), sym (append_assoc (decimal v) (c ∷ []) bytes) ∙ ap (λ l. l ++ bytes) (sym d) ∙ ih.2)
            | inr q ↦ let h = q.1 in absurd (cc)
          ]
    ]

pub digits_at-more : (bound stop : ℕ) → bound ≤ 2 ^ 64 → (v : ℕ) (bytes : List ℕ) → v < bound → digits_at bound stop v bytes ≡ Err More
    → (w : ℕ) × (w < bound) × (v ≤ w) × (decimal v ++ bytes ≡ decimal w)
digits_at-more bound stop fits v [] l e = (v, l, omega arith, append-nil (decimal v))
digits_at-more bound stop fits v (c ∷ bytes) l e =
    elim (chosen (c == stop) _ _ _ e) [
      | inl p ↦ let h = p.1 in absurd (cc)
      | inr p ↦
          elim (chosen (goes_on bound v c) _ _ _ p.1) [
            | inl q ↦
                let f = goes_on-facts bound v c q.0 in
                let ih = digits_at-more bound stop fits (10 * v + (c - 48)) bytes f.3 q.1 in
                let d = decimal_more v c f.2 f.0 f.1 (omega arith) in
                (ih.0, ih.1, omega (arith, ih.2), sym (append_assoc (decimal v) (c ∷ []) bytes) ∙ ap (λ l. l ++ bytes) (sym d) ∙ ih.3)
            | inr q ↦ let h = q.1 in absurd (cc)
          ]
    ]

pub digits_at-dead : (bound stop v : ℕ) (bytes more : List ℕ) → digits_at bound stop v bytes ≡ Err Dead → digits_at bound stop v (bytes ++ more) ≡ Err Dead
digits_at-dead bound stop v [] more e = absurd (cc)
digits_at-dead bound stop v (c ∷ bytes) more e =
    elim (chosen (c == stop) _ _ _ e) [
      | inl p ↦ let h = p.1 in absurd (cc)
      | inr p ↦
          elim (chosen (goes_on bound v c) _ _ _ p.1) [
            | inl q ↦ rw (p.0, q.0) (digits_at-dead bound stop (10 * v + (c - 48)) bytes more q.1)
            | inr q ↦ rw (p.0, q.0) refl
          ]
    ]

-- after the digits of n the rest of the number is read
abbrev Resumes : ℕ → ℕ → ℕ → ℕ → List ℕ → Type 0
Resumes least bound stop n ds = least ≤ n → n < bound → (tail : List ℕ) → number_at least bound stop (ds ++ tail) ≡ digits_at bound stop n tail

resumes_one : (least bound stop n : ℕ) → n < 10 → Resumes least bound stop n ((48 + n) ∷ [])
resumes_one least bound stop n small low high tail =
    let d : 48 + n - 48 ≡ n = omega arith in
    rw (begins-from least bound (48 + n) (omega arith) (omega arith) (omega arith) (omega arith), d) refl

resumes_more : (least bound stop : ℕ) → least ≤ 1 → stop < 48 → (n : ℕ) (ds : List ℕ) → 10 ≤ n → Resumes least bound stop (n / 10) ds → Resumes least bound stop n (ds ++ (48 + n % 10) ∷ [])
resumes_more least bound stop one apart n ds large before low high tail =
    let c = 48 + n % 10 in
    let n' : 10 * (n / 10) + (c - 48) ≡ n = omega arith in
    let go : goes_on bound (n / 10) c ≡ true = goes_on-from bound (n / 10) c (omega arith) (omega arith) (omega arith) (omega arith) in
    let no : (c == stop) ≡ false = grind (arith, nat_tests) in
    ap (number_at least bound stop) (append_assoc ds (c ∷ []) tail) ∙ before (omega arith) (omega arith) (c ∷ tail) ∙ rw (no, go, n') refl

number_at-again : (least bound stop : ℕ) → least ≤ 1 → bound ≤ 2 ^ 64 → stop < 48 → (n : ℕ) (rest : List ℕ) → (least ≤ n) × (n < bound) → number_at least bound stop ((decimal n ++ stop ∷ []) ++ rest) ≡ Ok (n, rest)
number_at-again least bound stop one fits apart n rest l =
    let r : Resumes least bound stop n (decimal n) = decimal_by_steps (Resumes least bound stop) (resumes_one least bound stop) (resumes_more least bound stop one apart) n (omega arith) in
    ap (number_at least bound stop) (append_assoc (decimal n) (stop ∷ []) rest) ∙ r l.0 l.1 (stop ∷ rest) ∙ rw (eq-eqb stop stop refl) refl

pub number_at-found : (least bound stop : ℕ) → bound ≤ 2 ^ 64 → (bytes rest : List ℕ) (n : ℕ) → number_at least bound stop bytes ≡ Ok (n, rest) → ((least ≤ n) × (n < bound)) × (bytes ≡ (decimal n ++ stop ∷ []) ++ rest)
number_at-found least bound stop fits [] rest n e = absurd (cc)
number_at-found least bound stop fits (c ∷ bytes) rest n e =
    elim (chosen (begins least bound c) _ _ _ e) [
      | inl p ↦
          let f = begins-facts least bound c p.0 in
          let g = digits_at-found bound stop fits (c - 48) bytes rest n f.3 p.1 in
          let d = first_digit c f.0 f.1 in
          ((omega (arith, g.1), g.0), ap (λ l. l ++ bytes) (sym d) ∙ g.2 ∙ sym (append_assoc (decimal n) (stop ∷ []) rest))
      | inr p ↦ let h = p.1 in absurd (cc)
    ]

number_at-more : (least bound stop : ℕ) → least < bound → bound ≤ 2 ^ 64 → (bytes : List ℕ) → number_at least bound stop bytes ≡ Err More → (n : ℕ) × (rest : List ℕ) × ((least ≤ n) × (n < bound)) × (bytes ++ rest ≡ decimal n ++ stop ∷ [])
number_at-more least bound stop some fits [] e = (least, decimal least ++ stop ∷ [], (omega arith, some), refl)
number_at-more least bound stop some fits (c ∷ bytes) e =
    elim (chosen (begins least bound c) _ _ _ e) [
      | inl p ↦
          let f = begins-facts least bound c p.0 in
          let g = digits_at-more bound stop fits (c - 48) bytes f.3 p.1 in
          let d = first_digit c f.0 f.1 in
          (g.0, stop ∷ [], (omega (arith, g.2), g.1), ap (λ l. l ++ stop ∷ []) (ap (λ l. l ++ bytes) (sym d) ∙ g.3))
      | inr p ↦ let h = p.1 in absurd (cc)
    ]

number_at-dead : (least bound stop : ℕ) (bytes more : List ℕ) → number_at least bound stop bytes ≡ Err Dead → number_at least bound stop (bytes ++ more) ≡ Err Dead
number_at-dead least bound stop [] more e = absurd (cc)
number_at-dead least bound stop (c ∷ bytes) more e =
    elim (chosen (begins least bound c) _ _ _ e) [
      | inl p ↦ rw p.0 (digits_at-dead bound stop (c - 48) bytes more p.1)
      | inr p ↦ rw p.0 refl
    ]

pub number_code : (least bound stop : ℕ) → least ≤ 1 → least < bound → bound ≤ 2 ^ 64 → stop < 48
    → IsCode (λ n. (least ≤ n) × (n < bound)) (λ n. decimal n ++ stop ∷ []) (number_at least bound stop)
number_code least bound stop one some fits apart = record {
  found = number_at-found least bound stop fits;
  again = number_at-again least bound stop one fits apart;
  more = number_at-more least bound stop some fits;
  dead = number_at-dead least bound stop;
}
