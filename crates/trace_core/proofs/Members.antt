-- The names of a set of threads, and the set of some names.
use Rattle.std.proofs.Common.{◌≡◌, ℕ, zero, suc, ◌+◌, ◌<◌, ◌≤◌, ◌⊎◌, inl, inr, List, [], ◌∷◌, ◌++◌, refl, ap, sym, subst, ◌∙◌, append_assoc, Bool, true, false, cond, eqb, arith}
use Rattle.std.proofs.lemmas.Bool.Decides.{eqb_tells}
use Rattle.std.specs.Prelude.{codes, decimal}
use Rattle.larch_actions.specs.declared.thread_set.ThreadSet.{ThreadSet}
use Rattle.larch_actions.specs.Sets.{in_set, mem}
use Rattle.larch_actions.proofs.Sets.{mem-here, mem-else, in_set-of}
use Rattle.trace_core.specs.Names.{IsRising, onto, set_from}
use Rattle.trace_core.specs.Text.{members_from, members, names_text, newline}
use Rattle.trace_core.proofs.RisingSets.{names_line}

rising-lower : (least bound : ℕ) (ts : List ℕ) → IsRising (least + 1) bound ts → IsRising least bound ts
rising-lower least bound [] h = tt
rising-lower least bound (t ∷ ts) h = (omega (arith, h.0), h.1, h.2)

rising-wider : (least bound more : ℕ) (ts : List ℕ) → bound ≤ more → IsRising least bound ts → IsRising least more ts
rising-wider least bound more [] le h = tt
rising-wider least bound more (t ∷ ts) le h = (h.0, omega (arith, h.1), rising-wider (t + 1) bound more ts le h.2)

mem-low : (k least bound : ℕ) (ts : List ℕ) → k < least → IsRising least bound ts → mem k ts ≡ false
mem-low k least bound [] low h = refl
mem-low k least bound (t ∷ ts) low h = mem-else k t ts (λ e. omega (arith, h.0)) ∙ mem-low k (t + 1) bound ts (omega (arith, h.0)) h.2

mem-high : (k least bound : ℕ) (ts : List ℕ) → bound ≤ k → IsRising least bound ts → mem k ts ≡ false
mem-high k least bound [] high h = refl
mem-high k least bound (t ∷ ts) high h = mem-else k t ts (λ e. omega (arith, h.1)) ∙ mem-high k (t + 1) bound ts high h.2

rising-from : (s : ThreadSet) (n t bound : ℕ) → ((k : ℕ) → in_set s k ≡ true → k < bound) → IsRising t bound (members_from s t n)
unfolding members_from
rising-from s zero t bound h = tt
rising-from s (suc n) t bound h =
    let more = rising-from s n (t + 1) bound h in
    elim (in_set s t) as (λ b. in_set s t ≡ b → IsRising t bound (cond b (t ∷ members_from s (t + 1) n) (members_from s (t + 1) n))) [
      | true ↦ λ e. (omega arith, h t e, more)
      | false ↦ λ e. rising-lower t bound (members_from s (t + 1) n) more
    ] refl

-- the names of a set are rising
pub rising-members : (s : ThreadSet) (bound : ℕ) → ((k : ℕ) → in_set s k ≡ true → k < bound) → IsRising 0 bound (members s)
unfolding members
rising-members s bound h = rising-from s 256 0 bound h

mem-before : (s : ThreadSet) (n t k : ℕ) → k < t → mem k (members_from s t n) ≡ false
unfolding members_from
mem-before s zero t k low = refl
mem-before s (suc n) t k low =
    let more = mem-before s n (t + 1) k (omega arith) in
    elim (in_set s t) as (λ b. mem k (cond b (t ∷ members_from s (t + 1) n) (members_from s (t + 1) n)) ≡ false) [
      | true ↦ mem-else k t (members_from s (t + 1) n) (λ e. omega arith) ∙ more
      | false ↦ more
    ]

mem-from : (s : ThreadSet) (n t k : ℕ) → t ≤ k → k < t + n → mem k (members_from s t n) ≡ in_set s k
unfolding members_from
mem-from s zero t k low high = absurd (omega arith)
mem-from s (suc n) t k low high =
    let rest = members_from s (t + 1) n in
    elim (eqb_tells t k) [
      | inl p ↦
          elim (in_set s t) as (λ b. in_set s t ≡ b → mem k (cond b (t ∷ rest) rest) ≡ in_set s k) [
            | true ↦ λ e. mem-here k t rest p.1 ∙ sym e ∙ ap (in_set s) p.1
            | false ↦ λ e. mem-before s n (t + 1) k (omega (arith, p.1)) ∙ sym e ∙ ap (in_set s) p.1
          ] refl
      | inr p ↦
          let more = mem-from s n (t + 1) k (omega (arith, p.1)) (omega arith) in
          elim (in_set s t) as (λ b. mem k (cond b (t ∷ rest) rest) ≡ in_set s k) [
            | true ↦ mem-else k t rest p.1 ∙ more
            | false ↦ more
          ]
    ]

low_or_high : (a b : ℕ) → (a < b) ⊎ (b ≤ a)
low_or_high a b = grind arith

not_in : (s : ThreadSet) (bound k : ℕ) → ((j : ℕ) → in_set s j ≡ true → j < bound) → bound ≤ k → in_set s k ≡ false
not_in s bound k h high =
    elim (in_set s k) as (λ b. in_set s k ≡ b → b ≡ false) [ true ↦ λ e. absurd (omega (arith, h k e)) | false ↦ λ e. refl ] refl

mem-members : (s : ThreadSet) (bound : ℕ) → bound ≤ 256 → ((j : ℕ) → in_set s j ≡ true → j < bound) → (k : ℕ) → mem k (members s) ≡ in_set s k
unfolding members
mem-members s bound small h k =
    elim (low_or_high k 256) [
      | inl low ↦ mem-from s 256 0 k (omega arith) (omega arith)
      | inr high ↦ mem-high k 0 bound (members_from s 0 256) (omega arith) (rising-from s 256 0 bound h) ∙ sym (not_in s bound k h (omega arith))
    ]

either_way : (a b c : Bool) → cond b true (cond a true c) ≡ cond (cond a true b) true c
either_way true true c = refl
either_way true false c = refl
either_way false b c = refl

mem-onto : (seen ts : List ℕ) (k : ℕ) → mem k (onto seen ts) ≡ cond (mem k ts) true (mem k seen)
mem-onto seen [] k = refl
mem-onto seen (t ∷ ts) k = mem-onto (t ∷ seen) ts k ∙ either_way (eqb t k) (mem k ts) (mem k seen)

or_none : (b : Bool) → cond b true false ≡ b
or_none true = refl
or_none false = refl

pub in_set-from : (ts : List ℕ) (k : ℕ) → in_set (set_from ts) k ≡ mem k ts
in_set-from ts k = in_set-of k (onto [] ts) ∙ mem-onto [] ts k ∙ or_none (mem k ts)

-- the set of the names of a set has the same threads
pub in_set-members : (s : ThreadSet) (bound : ℕ) → bound ≤ 256 → ((k : ℕ) → in_set s k ≡ true → k < bound) → (k : ℕ) → in_set (set_from (members s)) k ≡ in_set s k
in_set-members s bound small h k = in_set-from (members s) k ∙ mem-members s bound small h k

-- rising names are in range
pub below_bound : (bound : ℕ) (ts : List ℕ) → IsRising 0 bound ts → (k : ℕ) → in_set (set_from ts) k ≡ true → k < bound
below_bound bound ts h k e =
    elim (low_or_high k bound) [
      | inl low ↦ low
      | inr high ↦ let no : true ≡ false = sym e ∙ in_set-from ts k ∙ mem-high k 0 bound ts high h in absurd (cc)
    ]

members_from-rising : (s : ThreadSet) (n t : ℕ) (ts : List ℕ) → IsRising t (t + n) ts → ((k : ℕ) → t ≤ k → in_set s k ≡ mem k ts) → members_from s t n ≡ ts
unfolding members_from
members_from-rising s zero t [] h same = refl
members_from-rising s zero t (u ∷ us) h same = absurd (omega (arith, h.0, h.1))
members_from-rising s (suc n) t [] h same =
    rw (same t (omega arith)) (members_from-rising s n (t + 1) [] tt (λ k le. same k (omega arith)))
members_from-rising s (suc n) t (u ∷ us) h same =
    let end : t + suc n ≡ t + 1 + n = omega arith in
    elim (eqb_tells u t) [
      | inl p ↦
          let here : in_set s t ≡ true = same t (omega arith) ∙ mem-here t u us p.1 in
          let rest : IsRising (t + 1) (t + 1 + n) us = subst (λ b. IsRising (t + 1) b us) end (subst (λ b. IsRising (b + 1) (t + suc n) us) p.1 h.2) in
          rw here (ap (λ x. x ∷ members_from s (t + 1) n) (sym p.1) ∙ ap (λ l. u ∷ l) (members_from-rising s n (t + 1) us rest (λ k le. same k (omega arith) ∙ mem-else k u us (λ e. omega (arith, p.1)))))
      | inr p ↦
          let low : t < u = omega (arith, h.0, p.1) in
          let here : in_set s t ≡ false = same t (omega arith) ∙ mem-else t u us p.1 ∙ mem-low t (u + 1) (t + suc n) us (omega arith) h.2 in
          let rest : IsRising (t + 1) (t + 1 + n) (u ∷ us) = subst (λ b. IsRising (t + 1) b (u ∷ us)) end (omega arith, h.1, h.2) in
          rw here (members_from-rising s n (t + 1) (u ∷ us) rest (λ k le. same k (omega arith)))
    ]

-- the names of the set of rising names
pub members-set_from : (bound : ℕ) (ts : List ℕ) → bound ≤ 256 → IsRising 0 bound ts → members (set_from ts) ≡ ts
unfolding members
members-set_from bound ts small h = members_from-rising (set_from ts) 256 0 ts (rising-wider 0 bound 256 ts small h) (λ k le. in_set-from ts k)

pub names_line_is : (ts : List ℕ) → names_line ts ≡ names_text ts ++ newline
names_line_is [] = refl
names_line_is (t ∷ ts) =
    ap (λ l. codes " t" ++ (decimal t ++ l)) (names_line_is ts) ∙ sym (append_assoc (codes " t") (decimal t) (names_text ts ++ newline)) ∙ sym (append_assoc (codes " t" ++ decimal t) (names_text ts) newline)
