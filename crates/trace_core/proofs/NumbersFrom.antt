-- Reading a number with a lower bound is exact.
use Rattle.std.proofs.Common.{◌≡◌, ℕ, ◌+◌, ◌-◌, ◌*◌, ◌/◌, ◌%◌, ◌^◌, ◌<◌, ◌≤◌, ◌⊎◌, inl, inr, List, [], ◌∷◌, ◌++◌, length, take, drop, get_or, cond, refl, ap, sym, subst, ◌∙◌, append_assoc, append-nil, Bool, true, false, Ok, Err, arith, rules, tests}
use Rattle.std.proofs.lemmas.Bool.{eqb-true}
use Rattle.std.proofs.lemmas.Bool.Decides.{nat_tests}
use Rattle.std.proofs.lemmas.Fmt.{decimal_step, decimal_digit}
use Rattle.std.proofs.lemmas.List.{take_all}
use Rattle.std.specs.Prelude.{decimal, ◌&&◌, nat_le, nat_lt}
use Rattle.exact_text.specs.declared.stop.Stop.TheVariants.{More, Dead}
use Rattle.exact_text.specs.Codes.{IsCode}
use Rattle.exact_text.proofs.Words.{chosen}
use Rattle.exact_text.proofs.CodeLaws.{ok_injective}
use Rattle.exact_text.proofs.Numbers.{decimal_more}
use Rattle.trace_core.specs.Names.{reaches, is_digit, may_stop, digits_from, number_from, IsStopped}

both_true : (a b : Bool) → (a && b) ≡ true → (a ≡ true) × (b ≡ true)
both_true true b e = (refl, e)
both_true false b e = absurd (cc)

true_both : (a b : Bool) → a ≡ true → b ≡ true → (a && b) ≡ true
true_both true b p q = q
true_both false b p q = absurd (cc)

digit_facts : (c : ℕ) → is_digit c ≡ true → (48 ≤ c) × (c ≤ 57)
digit_facts c e = search (rules, tests)

digit_from : (c : ℕ) → 48 ≤ c → c ≤ 57 → is_digit c ≡ true
digit_from c a b = search (rules, tests)

stop_small : (several : Bool) (bound v c : ℕ) → may_stop several bound v c ≡ true → c < 48
stop_small true bound v c e = grind (arith, nat_tests)
stop_small false bound v c e = grind (arith, nat_tests)

reaches_below : (least bound v : ℕ) → reaches least bound v ≡ true → v < bound
reaches_below least bound v e = grind (arith, nat_tests)

-- a number in range that begins with v
reaches_some : (least bound v : ℕ) → reaches least bound v ≡ true
    → (least ≤ v) ⊎ (((0 < v) × (10 * v < bound) × (least ≤ 10 * v + 9)) ⊎ ((0 < v) × (100 * v < bound) × (least ≤ 100 * v + 99)))
reaches_some least bound v e = grind (arith, nat_tests)

reaches_here : (least bound v : ℕ) → least ≤ v → v < bound → reaches least bound v ≡ true
reaches_here least bound v a b = grind (arith, nat_tests)

reaches_next : (least bound v : ℕ) → 0 < v → 10 * v < bound → least ≤ 10 * v + 9 → reaches least bound v ≡ true
reaches_next least bound v a b d = grind (arith, nat_tests)

reaches_far : (least bound v : ℕ) → 0 < v → 100 * v < bound → least ≤ 100 * v + 99 → reaches least bound v ≡ true
reaches_far least bound v a b d = grind (arith, nat_tests)

-- a byte that may stop each number
abbrev end_of : Bool → ℕ
end_of true = 10
end_of false = 32

stop_end : (several : Bool) (bound v : ℕ) → may_stop several bound v (end_of several) ≡ true
stop_end true bound v = refl
stop_end false bound v = refl

le_or : (a b : ℕ) → (a ≤ b) ⊎ (b < a)
le_or a b = grind arith

le_from : (a b : ℕ) → nat_le a b ≡ true → a ≤ b
le_from a b e = search (rules, tests)

from_le : (a b : ℕ) → a ≤ b → nat_le a b ≡ true
from_le a b e = search (rules, tests)

lt_from : (a b : ℕ) → nat_lt a b ≡ true → a < b
lt_from a b e = search (rules, tests)

from_lt : (a b : ℕ) → a < b → nat_lt a b ≡ true
from_lt a b e = search (rules, tests)

pub digits-found : (several : Bool) (least bound : ℕ) → bound ≤ 256 → (v : ℕ) (bytes rest : List ℕ) (p : ℕ × ℕ) → v < bound → digits_from several least bound v bytes ≡ Ok (p, rest)
    → IsStopped several least bound p × (decimal v ++ bytes ≡ decimal p.0 ++ p.1 ∷ rest)
digits-found several least bound small v [] rest p l e = absurd (cc)
digits-found several least bound small v (c ∷ bytes) rest p l e =
    elim (chosen (may_stop several bound v c && nat_le least v) _ _ _ e) [
      | inl q ↦
          let h = both_true (may_stop several bound v c) (nat_le least v) q.0 in
          let Q : (ℕ × ℕ) × List ℕ → Type 0 = λ r. IsStopped several least bound r.0 × (decimal v ++ c ∷ bytes ≡ decimal r.0.0 ++ r.0.1 ∷ r.1) in
          subst Q (ok_injective q.1) ((le_from least v h.1, l, h.0), refl)
      | inr q ↦
          elim (chosen (is_digit c && (nat_lt 0 v && reaches least bound (10 * v + (c - 48)))) _ _ _ q.1) [
            | inl r ↦
                let a = both_true (is_digit c) _ r.0 in
                let b = both_true (nat_lt 0 v) _ a.1 in
                let d = digit_facts c a.0 in
                let low = reaches_below least bound (10 * v + (c - 48)) b.1 in
                let ih = digits-found several least bound small (10 * v + (c - 48)) bytes rest p low r.1 in
                let m = decimal_more v c (lt_from 0 v b.0) d.0 d.1 (omega arith) in
                (ih.0, sym (append_assoc (decimal v) (c ∷ []) bytes) ∙ ap (λ l. l ++ bytes) (sym m) ∙ ih.1)
            | inr r ↦ let h = r.1 in absurd (cc)
          ]
    ]

-- a number of two digits more
two_more : (v w : ℕ) → 0 < v → 100 * v ≤ w → w ≤ 100 * v + 99 → w < 2 ^ 64 → (ds : List ℕ) × (decimal w ≡ decimal v ++ ds)
two_more v w some low high fits =
    let q = w / 10 in
    let a = 48 + (q - 10 * v) in
    let b = 48 + w % 10 in
    let q_is : 10 * v + (a - 48) ≡ q = omega arith in
    let w_is : 10 * q + (b - 48) ≡ w = omega arith in
    let first : decimal q ≡ decimal v ++ a ∷ [] = ap decimal (sym q_is) ∙ decimal_more v a some (omega arith) (omega arith) (omega arith) in
    let all : decimal w ≡ decimal q ++ b ∷ [] = ap decimal (sym w_is) ∙ decimal_more q b (omega arith) (omega arith) (omega arith) (omega arith) in
    (a ∷ b ∷ [], all ∙ ap (λ l. l ++ b ∷ []) first ∙ append_assoc (decimal v) (a ∷ []) (b ∷ []))

-- the bytes go on to a whole number
completes : (least bound : ℕ) → least < bound → bound ≤ 256 → (v : ℕ) → reaches least bound v ≡ true → (w : ℕ) × (ds : List ℕ) × (least ≤ w) × (w < bound) × (decimal w ≡ decimal v ++ ds)
completes least bound some small v e =
    let b = reaches_below least bound v e in
    elim (reaches_some least bound v e) [
      | inl le ↦ (v, [], le, b, sym (append-nil (decimal v)))
      | inr (inr h) ↦
          elim (le_or (100 * v) least) [
            | inl le ↦ let d = two_more v least h.0 le h.2 (omega arith) in (least, d.0, omega arith, some, d.1)
            | inr gt ↦ let d = two_more v (100 * v) h.0 (omega arith) (omega arith) (omega (arith, h.1)) in (100 * v, d.0, omega arith, h.1, d.1)
          ]
      | inr (inl h) ↦
          elim (le_or (10 * v) least) [
            | inl le ↦
                let c = 48 + (least - 10 * v) in
                let n : 10 * v + (c - 48) ≡ least = omega arith in
                (least, c ∷ [], omega arith, some, ap decimal (sym n) ∙ decimal_more v c h.0 (omega arith) (omega (arith, h.2)) (omega arith))
            | inr gt ↦
                let n : 10 * v + (48 - 48) ≡ 10 * v = omega arith in
                (10 * v, 48 ∷ [], omega arith, h.1, ap decimal (sym n) ∙ decimal_more v 48 h.0 (omega arith) (omega arith) (omega (arith, h.1)))
          ]
    ]

pub digits-more : (several : Bool) (least bound : ℕ) → least < bound → bound ≤ 256 → (v : ℕ) (bytes : List ℕ) → reaches least bound v ≡ true → digits_from several least bound v bytes ≡ Err More
    → (p : ℕ × ℕ) × (rest : List ℕ) × IsStopped several least bound p × ((decimal v ++ bytes) ++ rest ≡ decimal p.0 ++ p.1 ∷ [])
digits-more several least bound some small v [] re e =
    let w = completes least bound some small v re in
    let c = end_of several in
    ((w.0, c), w.1 ++ c ∷ [], (w.2, w.3, stop_end several bound w.0), ap (λ l. l ++ (w.1 ++ c ∷ [])) (append-nil (decimal v)) ∙ sym (append_assoc (decimal v) w.1 (c ∷ [])) ∙ ap (λ l. l ++ c ∷ []) (sym w.4))
digits-more several least bound some small v (c ∷ bytes) re e =
    elim (chosen (may_stop several bound v c && nat_le least v) _ _ _ e) [
      | inl q ↦ let h = q.1 in absurd (cc)
      | inr q ↦
          elim (chosen (is_digit c && (nat_lt 0 v && reaches least bound (10 * v + (c - 48)))) _ _ _ q.1) [
            | inl r ↦
                let a = both_true (is_digit c) _ r.0 in
                let b = both_true (nat_lt 0 v) _ a.1 in
                let d = digit_facts c a.0 in
                let ih = digits-more several least bound some small (10 * v + (c - 48)) bytes b.1 r.1 in
                let low = reaches_below least bound (10 * v + (c - 48)) b.1 in
                let m = decimal_more v c (lt_from 0 v b.0) d.0 d.1 (omega arith) in
                (ih.0, ih.1, ih.2, ap (λ l. l ++ ih.1) (sym (append_assoc (decimal v) (c ∷ []) bytes) ∙ ap (λ l. l ++ bytes) (sym m)) ∙ ih.3)
            | inr r ↦ let h = r.1 in absurd (cc)
          ]
    ]

pub digits-dead : (several : Bool) (least bound v : ℕ) (bytes more : List ℕ) → digits_from several least bound v bytes ≡ Err Dead → digits_from several least bound v (bytes ++ more) ≡ Err Dead
digits-dead several least bound v [] more e = absurd (cc)
digits-dead several least bound v (c ∷ bytes) more e =
    elim (chosen (may_stop several bound v c && nat_le least v) _ _ _ e) [
      | inl q ↦ let h = q.1 in absurd (cc)
      | inr q ↦
          elim (chosen (is_digit c && (nat_lt 0 v && reaches least bound (10 * v + (c - 48)))) _ _ _ q.1) [
            | inl r ↦ rw (q.0, r.0) (digits-dead several least bound (10 * v + (c - 48)) bytes more r.1)
            | inr r ↦ rw (q.0, r.0) refl
          ]
    ]

first_digit : (c : ℕ) → 48 ≤ c → c ≤ 57 → decimal (c - 48) ≡ c ∷ []
first_digit c low high = let e : 48 + (c - 48) ≡ c = omega arith in decimal_digit (c - 48) (omega arith) ∙ ap (λ d. d ∷ []) e

pub from-found : (several : Bool) (least bound : ℕ) → bound ≤ 256 → (bytes rest : List ℕ) (p : ℕ × ℕ) → number_from several least bound bytes ≡ Ok (p, rest) → IsStopped several least bound p × (bytes ≡ (decimal p.0 ++ p.1 ∷ []) ++ rest)
from-found several least bound small [] rest p e = absurd (cc)
from-found several least bound small (c ∷ bytes) rest p e =
    elim (chosen (is_digit c && reaches least bound (c - 48)) _ _ _ e) [
      | inl q ↦
          let a = both_true (is_digit c) _ q.0 in
          let d = digit_facts c a.0 in
          let g = digits-found several least bound small (c - 48) bytes rest p (reaches_below least bound (c - 48) a.1) q.1 in
          (g.0, ap (λ l. l ++ bytes) (sym (first_digit c d.0 d.1)) ∙ g.1 ∙ sym (append_assoc (decimal p.0) (p.1 ∷ []) rest))
      | inr q ↦ let h = q.1 in absurd (cc)
    ]

from-more : (several : Bool) (least bound : ℕ) → least < bound → bound ≤ 256 → (bytes : List ℕ) → number_from several least bound bytes ≡ Err More → (p : ℕ × ℕ) × (rest : List ℕ) × IsStopped several least bound p × (bytes ++ rest ≡ decimal p.0 ++ p.1 ∷ [])
from-more several least bound some small [] e = ((least, end_of several), decimal least ++ end_of several ∷ [], (omega arith, some, stop_end several bound least), refl)
from-more several least bound some small (c ∷ bytes) e =
    elim (chosen (is_digit c && reaches least bound (c - 48)) _ _ _ e) [
      | inl q ↦
          let a = both_true (is_digit c) _ q.0 in
          let d = digit_facts c a.0 in
          let g = digits-more several least bound some small (c - 48) bytes a.1 q.1 in
          (g.0, g.1, g.2, ap (λ l. (l ++ bytes) ++ g.1) (sym (first_digit c d.0 d.1)) ∙ g.3)
      | inr q ↦ let h = q.1 in absurd (cc)
    ]

from-dead : (several : Bool) (least bound : ℕ) (bytes more : List ℕ) → number_from several least bound bytes ≡ Err Dead → number_from several least bound (bytes ++ more) ≡ Err Dead
from-dead several least bound [] more e = absurd (cc)
from-dead several least bound (c ∷ bytes) more e =
    elim (chosen (is_digit c && reaches least bound (c - 48)) _ _ _ e) [
      | inl q ↦ rw q.0 (digits-dead several least bound (c - 48) bytes more q.1)
      | inr q ↦ rw q.0 refl
    ]

-- a digit is no stop
digit_goes_on : (several : Bool) (bound v c : ℕ) (b : Bool) → 48 ≤ c → (may_stop several bound v c && b) ≡ false
digit_goes_on true bound v c b low = grind (arith, nat_tests)
digit_goes_on false bound v c b low = grind (arith, nat_tests)

-- how many digits it has: two, three or more, or one
how_long : (n : ℕ) → (((10 ≤ n) × (n < 100)) ⊎ (100 ≤ n)) ⊎ (n < 10)
how_long n = grind arith

from-again : (several : Bool) (least bound : ℕ) → bound ≤ 256 → (p : ℕ × ℕ) (rest : List ℕ) → IsStopped several least bound p → number_from several least bound ((decimal p.0 ++ p.1 ∷ []) ++ rest) ≡ Ok (p, rest)
from-again several least bound small p rest l =
    let n = p.0 in
    let c = p.1 in
    let stop : (may_stop several bound n c && nat_le least n) ≡ true = true_both _ _ l.2 (from_le least n l.0) in
    elim (how_long n) [
      | inr one ↦
          let z : 48 + n - 48 ≡ n = omega arith in
          let go : (is_digit (48 + n) && reaches least bound n) ≡ true = true_both _ _ (digit_from (48 + n) (omega arith) (omega arith)) (reaches_here least bound n l.0 l.1) in
          ap (λ l. number_from several least bound ((l ++ c ∷ []) ++ rest)) (decimal_digit n one) ∙ rw (z, go, stop) refl
      | inl (inr three) ↦
          let r = n / 100 in
          let q = n / 10 in
          let d = 48 + q % 10 in
          let f = 48 + n % 10 in
          let low : n < 256 = omega (arith, l.1) in
          let q' : 10 * r + (d - 48) ≡ q = omega arith in
          let n' : 10 * q + (f - 48) ≡ n = omega arith in
          let z : 48 + r - 48 ≡ r = omega arith in
          let head : (is_digit (48 + r) && reaches least bound r) ≡ true = true_both _ _ (digit_from (48 + r) (omega arith) (omega (arith, low))) (reaches_far least bound r (omega arith) (omega (arith, l.1)) (omega (arith, l.0))) in
          let next : (is_digit d && (nat_lt 0 r && reaches least bound q)) ≡ true =
          true_both _ _ (digit_from d (omega arith) (omega arith)) (true_both _ _ (from_lt 0 r (omega arith)) (reaches_next least bound q (omega arith) (omega (arith, l.1)) (omega (arith, l.0))))
          in
          let last : (is_digit f && (nat_lt 0 q && reaches least bound n)) ≡ true =
          true_both _ _ (digit_from f (omega arith) (omega arith)) (true_both _ _ (from_lt 0 q (omega arith)) (reaches_here least bound n l.0 l.1))
          in
          let prefix : decimal q ≡ (48 + r) ∷ d ∷ [] = decimal_step q (omega arith) (omega (arith, low)) ∙ ap (λ m. decimal m ++ d ∷ []) (let e : q / 10 ≡ r = omega arith in e) ∙ ap (λ l. l ++ d ∷ []) (decimal_digit r (omega (arith, low))) in
          let spelled : decimal n ≡ (48 + r) ∷ d ∷ f ∷ [] = decimal_step n (omega arith) (omega (arith, low)) ∙ ap (λ l. l ++ f ∷ []) prefix in
          ap (λ l. number_from several least bound ((l ++ c ∷ []) ++ rest)) spelled
          ∙ rw (z, head, digit_goes_on several bound r d (nat_le least r) (omega arith), q', next, digit_goes_on several bound q f (nat_le least q) (omega arith), n', last, stop) refl
      | inl (inl two) ↦
          let q = n / 10 in
          let d = 48 + n % 10 in
          let n' : 10 * q + (d - 48) ≡ n = omega arith in
          let z : 48 + q - 48 ≡ q = omega arith in
          let head : (is_digit (48 + q) && reaches least bound q) ≡ true = true_both _ _ (digit_from (48 + q) (omega arith) (omega (arith, l.1))) (reaches_next least bound q (omega arith) (omega (arith, l.1)) (omega (arith, l.0))) in
          let next : (is_digit d && (nat_lt 0 q && reaches least bound n)) ≡ true =
          true_both _ _ (digit_from d (omega arith) (omega arith)) (true_both _ _ (from_lt 0 q (omega arith)) (reaches_here least bound n l.0 l.1))
          in
          let spelled : decimal n ≡ (48 + q) ∷ d ∷ [] = decimal_step n two.0 (omega (arith, l.1)) ∙ ap (λ l. l ++ d ∷ []) (decimal_digit q (omega (arith, l.1))) in
          ap (λ l. number_from several least bound ((l ++ c ∷ []) ++ rest)) spelled ∙ rw (z, head, digit_goes_on several bound q d (nat_le least q) (omega arith), n', next, stop) refl
    ]

pub number_from_code : (several : Bool) (least bound : ℕ) → least < bound → bound ≤ 256 → IsCode (IsStopped several least bound) (λ p. decimal p.0 ++ p.1 ∷ []) (number_from several least bound)
number_from_code several least bound some small = record {
  found = from-found several least bound small;
  again = from-again several least bound small;
  more = from-more several least bound some small;
  dead = from-dead several least bound;
}

pub stop_cases : (bound v c : ℕ) → may_stop true bound v c ≡ true → (c ≡ 10) ⊎ ((c ≡ 32) × (v + 1 < bound))
stop_cases bound v c e = grind (arith, nat_tests)

-- a name that isn't the last has a higher one
pub higher : (bound v c : ℕ) → may_stop true bound v c ≡ true → (c ≡ 10 → ⊥) → v + 1 < bound
higher bound v c e more = elim (stop_cases bound v c e) [ inl h ↦ absurd (more h) | inr h ↦ h.1 ]

-- a single name stands before a space
pub only_space : (bound v c : ℕ) → may_stop false bound v c ≡ true → c ≡ 32
only_space bound v c e = eqb-true c 32 e

pub space_stops : (bound v : ℕ) → may_stop false bound v 32 ≡ true
space_stops bound v = refl

taken : {A : Type 0} (b : Bool) (x y : A) → b ≡ true → cond b x y ≡ x
taken b x y e = rw e refl

-- the first digit
pub from_first : (several : Bool) (least bound : ℕ) (bytes : List ℕ) (v : ℕ) → 1 ≤ length bytes → 48 ≤ get_or bytes 0 0 → get_or bytes 0 0 ≤ 57 → v ≡ get_or bytes 0 0 - 48 → reaches least bound (get_or bytes 0 0 - 48) ≡ true
    → (v < bound) × (digits_from several least bound v (take (length bytes - 1) (drop 1 bytes)) ≡ number_from several least bound bytes)
from_first several least bound [] v some a b e r = absurd (omega arith)
from_first several least bound (c ∷ bytes) v some a b e r =
    let rest : take (length (c ∷ bytes) - 1) bytes ≡ bytes = take_all _ bytes (omega arith) in (
      subst (λ n. n < bound) (sym e) (reaches_below least bound (c - 48) r),
      ap (λ n. digits_from several least bound n (take (length (c ∷ bytes) - 1) bytes)) e ∙ ap (digits_from several least bound (c - 48)) rest
          ∙ sym (taken (is_digit c && reaches least bound (c - 48)) _ _ (true_both (is_digit c) _ (digit_from c a b) r)),
    )

passed : {A : Type 0} (b : Bool) (x y : A) → b ≡ false → cond b x y ≡ y
passed b x y e = rw e refl

-- a stop needs both tests
pub left_false : (a b : Bool) → a ≡ false → (a && b) ≡ false
left_false a b e = rw e refl

pub less_false : (a : Bool) (least v : ℕ) → v < least → (a && nat_le least v) ≡ false
less_false true least v lt = search (rules, tests)
less_false false least v lt = refl

-- one more digit, where the number doesn't stop
pub from_next : (several : Bool) (least bound v : ℕ) (bytes : List ℕ) (d : ℕ) → 1 ≤ length bytes → (may_stop several bound v (get_or bytes 0 0) && nat_le least v) ≡ false → 48 ≤ get_or bytes 0 0 → get_or bytes 0 0 ≤ 57 → 0 < v
    → d ≡ get_or bytes 0 0 - 48 → reaches least bound (10 * v + (get_or bytes 0 0 - 48)) ≡ true
    → (10 * v + d < bound) × (digits_from several least bound (10 * v + d) (take (length bytes - 1) (drop 1 bytes)) ≡ digits_from several least bound v bytes)
from_next several least bound v [] d some stop a b pos e r = absurd (omega arith)
from_next several least bound v (c ∷ bytes) d some stop a b pos e r =
    let rest : take (length (c ∷ bytes) - 1) bytes ≡ bytes = take_all _ bytes (omega arith) in
    let more = true_both (is_digit c) _ (digit_from c a b) (true_both (nat_lt 0 v) _ (from_lt 0 v pos) r) in (
      subst (λ n. 10 * v + n < bound) (sym e) (reaches_below least bound (10 * v + (c - 48)) r),
      ap (λ n. digits_from several least bound (10 * v + n) (take (length (c ∷ bytes) - 1) bytes)) e ∙ ap (digits_from several least bound (10 * v + (c - 48))) rest
          ∙ sym (passed (may_stop several bound v c && nat_le least v) _ _ stop ∙ taken (is_digit c && (nat_lt 0 v && reaches least bound (10 * v + (c - 48)))) _ _ more),
    )
