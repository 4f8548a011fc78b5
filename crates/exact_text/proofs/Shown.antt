-- What the first bytes of an input show holds of the whole, and an input has one answer.
use Rattle.std.proofs.Common.{◌≡◌, ℕ, zero, suc, ◌+◌, ◌-◌, ◌<◌, ◌≤◌, ◌⊎◌, inl, inr, List, [], ◌∷◌, ◌++◌, length, take, drop, refl, ap, sym, subst, ◌∙◌, append_assoc, append-nil, arith}
use Rattle.std.proofs.lemmas.Bool.{cases_lt}
use Rattle.std.proofs.lemmas.Bool.Decides.{eqb_tells}
use Rattle.std.proofs.lemmas.List.{take-append-drop, take_all}
use Rattle.exact_text.specs.Prefixes.{Begins, first_lines, IsBrokenAt, IsBadLine}
use Rattle.exact_text.specs.Exact.{IsShown, IsTooLong, OneAnswer}

-- the first k lines are all of the bytes, or stay the same whatever follows
lines_settled : (k : ℕ) (xs ys : List ℕ) → ((first_lines k xs ≡ xs) × (first_lines (k + 1) xs ≡ xs)) ⊎ (first_lines k (xs ++ ys) ≡ first_lines k xs)
lines_settled k [] ys = inl (refl, refl)
lines_settled zero (c ∷ xs) ys = inr refl
lines_settled (suc k) (c ∷ xs) ys =
    let high : suc k + 1 ≡ suc (suc k) = omega arith in
    let one : k + 1 ≡ suc k = omega arith in
    elim (eqb_tells c 10) [
      | inl p ↦
          elim (lines_settled k xs ys) [
            | inl h ↦ inl (rw p.0 (ap (λ l. c ∷ l) h.0), rw (high, p.0) (ap (λ l. c ∷ l) (ap (λ m. first_lines m xs) (sym one) ∙ h.1)))
            | inr h ↦ inr (rw p.0 (ap (λ l. c ∷ l) h))
          ]
      | inr p ↦
          elim (lines_settled (suc k) xs ys) [
            | inl h ↦ inl (rw p.0 (ap (λ l. c ∷ l) h.0), rw (high, p.0) (ap (λ l. c ∷ l) (ap (λ m. first_lines m xs) (sym high) ∙ h.1)))
            | inr h ↦ inr (rw p.0 (ap (λ l. c ∷ l) h))
          ]
    ]

-- the first k lines of more bytes begin with those of fewer
lines_grow : (k : ℕ) (xs ys : List ℕ) → (rest : List ℕ) × (first_lines k (xs ++ ys) ≡ first_lines k xs ++ rest)
lines_grow k [] ys = (first_lines k ys, refl)
lines_grow zero (c ∷ xs) ys = ([], refl)
lines_grow (suc k) (c ∷ xs) ys =
    elim (eqb_tells c 10) [
      | inl p ↦ let r = lines_grow k xs ys in (r.0, rw p.0 (ap (λ l. c ∷ l) r.1))
      | inr p ↦ let r = lines_grow (suc k) xs ys in (r.0, rw p.0 (ap (λ l. c ∷ l) r.1))
    ]

-- more lines begin with fewer
lines_more : (j k : ℕ) (xs : List ℕ) → j ≤ k → (rest : List ℕ) × (first_lines k xs ≡ first_lines j xs ++ rest)
lines_more j k [] le = ([], refl)
lines_more zero k (c ∷ xs) le = (first_lines k (c ∷ xs), refl)
lines_more (suc j) zero (c ∷ xs) le = absurd (omega arith)
lines_more (suc j) (suc k) (c ∷ xs) le =
    elim (eqb_tells c 10) [
      | inl p ↦ let r = lines_more j k xs (omega arith) in (r.0, rw p.0 (ap (λ l. c ∷ l) r.1))
      | inr p ↦ let r = lines_more (suc j) (suc k) xs le in (r.0, rw p.0 (ap (λ l. c ∷ l) r.1))
    ]

-- they begin the bytes
pub lines_begin : (k : ℕ) (xs : List ℕ) → (rest : List ℕ) × (xs ≡ first_lines k xs ++ rest)
lines_begin k [] = ([], refl)
lines_begin zero (c ∷ xs) = (c ∷ xs, refl)
lines_begin (suc k) (c ∷ xs) =
    elim (eqb_tells c 10) [
      | inl p ↦ let r = lines_begin k xs in (r.0, rw p.0 (ap (λ l. c ∷ l) r.1))
      | inr p ↦ let r = lines_begin (suc k) xs in (r.0, rw p.0 (ap (λ l. c ∷ l) r.1))
    ]

-- what begins a prefix of a text begins one
pub begins_first : (T : List ℕ → Type 0) (first rest all : List ℕ) → all ≡ first ++ rest → Begins T all → Begins T first
begins_first T first rest all e b = (rest ++ b.0, subst T (ap (λ l. l ++ b.0) e ∙ append_assoc first rest b.0) b.1)

broken_stays : (T : List ℕ → Type 0) (xs ys : List ℕ) (k : ℕ) → IsBrokenAt T xs k → IsBrokenAt T (xs ++ ys) k
broken_stays T xs ys k b =
    let one : k - 1 + 1 ≡ k = omega (arith, b.counted) in record {
      counted = b.counted;
      before =
          elim (lines_settled (k - 1) xs ys) [
            | inl h ↦ absurd (b.broken (subst (Begins T) (h.0 ∙ sym h.1 ∙ ap (λ m. first_lines m xs) one) b.before))
            | inr h ↦ subst (Begins T) (sym h) b.before
          ];
      broken = λ t. let g = lines_grow k xs ys in b.broken (begins_first T (first_lines k xs) g.0 (first_lines k (xs ++ ys)) g.1 t);
    }

-- what the first bytes show is the bad line of the whole input
pub shown_is_bad : (T : List ℕ → Type 0) (room : ℕ) (input : List ℕ) (k : ℕ) → IsShown T room input k → IsBadLine T input k
shown_is_bad T room input k (inl b) = inl (subst (λ l. IsBrokenAt T l k) (take-append-drop room input) (broken_stays T (take room input) (drop room input) k b))
shown_is_bad T room input k (inr c) = inr c.1

-- what begins a text is broken nowhere
pub unbroken : (T : List ℕ → Type 0) (bytes : List ℕ) (k : ℕ) → Begins T bytes → IsBrokenAt T bytes k → ⊥
unbroken T bytes k b broken = let l = lines_begin k bytes in broken.broken (begins_first T (first_lines k bytes) l.0 bytes l.1 b)

text_begins : (T : List ℕ → Type 0) (room : ℕ) (input : List ℕ) → T input → length input ≤ room → Begins T (take room input)
text_begins T room input t le = ([], subst T (sym (append-nil (take room input) ∙ take_all room input le)) t)

bad_before : (T : List ℕ → Type 0) (bytes : List ℕ) (j k : ℕ) → IsBrokenAt T bytes j → IsBrokenAt T bytes k → j < k → ⊥
bad_before T bytes j k a b lt =
    let m = lines_more j (k - 1) bytes (omega arith) in
    a.broken (begins_first T (first_lines j bytes) m.0 (first_lines (k - 1) bytes) m.1 b.before)

one_broken : (T : List ℕ → Type 0) (bytes : List ℕ) (j k : ℕ) → IsBrokenAt T bytes j → IsBrokenAt T bytes k → j ≡ k
one_broken T bytes j k a b =
    elim (cases_lt j k) [
      | inl lt ↦ absurd (bad_before T bytes j k a b lt)
      | inr le ↦ elim (cases_lt k j) [ inl lt ↦ absurd (bad_before T bytes k j b a lt) | inr ge ↦ omega (arith, le, ge) ]
    ]

module _ (T : List ℕ → Type 0) (room : List ℕ → ℕ) where
  broken_or_cut : (input : List ℕ) (j : ℕ) → length input ≤ room input → IsBrokenAt T (take (room input) input) j → Begins T input → ⊥
  broken_or_cut input j le a b = unbroken T input j b (subst (λ l. IsBrokenAt T l j) (take_all (room input) input le) a)

  text_or_bad : (input : List ℕ) (k : ℕ) → T input → length input ≤ room input → IsShown T (room input) input k → ⊥
  text_or_bad input k t le (inl b) = unbroken T (take (room input) input) k (text_begins T (room input) input t le) b
  text_or_bad input k t le (inr c) = c.1.no_text t

  bad_or_long : (input : List ℕ) (k : ℕ) → IsShown T (room input) input k → IsTooLong T (room input) input → ⊥
  bad_or_long input k (inl b) l = unbroken T (take (room input) input) k l.1 b
  bad_or_long input k (inr c) l = omega (arith, c.0, l.0)

  one_line : (input : List ℕ) (j k : ℕ) → IsShown T (room input) input j → IsShown T (room input) input k → j ≡ k
  one_line input j k (inl a) (inl b) = one_broken T (take (room input) input) j k a b
  one_line input j k (inl a) (inr c) = absurd (broken_or_cut input j c.0 a c.1.prefix)
  one_line input j k (inr c) (inl a) = absurd (broken_or_cut input k c.0 a c.1.prefix)
  one_line input j k (inr c) (inr d) = c.1.last ∙ sym d.1.last

  pub one_answer : OneAnswer T room
  one_answer = record { text_or_bad = text_or_bad; text_or_long = λ input le l. omega (arith, le, l.0); bad_or_long = bad_or_long; one_line = one_line }
