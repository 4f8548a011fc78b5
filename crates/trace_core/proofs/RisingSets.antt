-- Reading names in rising order is exact.
use Rattle.std.proofs.Common.{◌≡◌, ℕ, zero, suc, ◌+◌, ◌<◌, ◌≤◌, ◌⊎◌, inl, inr, List, [], ◌∷◌, ◌++◌, refl, ap, sym, ◌∙◌, append_assoc, append-nil, true, false, Ok, arith}
use Rattle.std.proofs.lemmas.Bool.{eq-eqb}
use Rattle.std.proofs.lemmas.Bool.Decides.{nat_tests}
use Rattle.std.specs.Prelude.{◌==◌, decimal, codes, if◌then◌else◌}
use Rattle.exact_text.specs.Codes.{IsCode}
use Rattle.exact_text.specs.Reading.{Reader, after_word}
use Rattle.exact_text.proofs.CodeLaws.{same_code, lawful_code, word_code, nothing_code, then_code, as_code, or_code}
use Rattle.trace_core.specs.Names.{may_stop, IsStopped, IsRising, tail_at, names_at}
use Rattle.trace_core.proofs.NumbersFrom.{number_from_code}

-- the names, and the newline after them
abbrev pub names_line : List ℕ → List ℕ
names_line [] = 10 ∷ []
names_line (t ∷ ts) = codes " t" ++ (decimal t ++ names_line ts)

-- at least one name
abbrev IsTail : ℕ → ℕ → List ℕ → Type 0
IsTail least bound [] = ⊥
IsTail least bound (t ∷ ts) = IsRising least bound (t ∷ ts)

-- the text after the first ` t`
abbrev tail_text : List ℕ → List ℕ
tail_text [] = []
tail_text (t ∷ ts) = decimal t ++ names_line ts

-- after a stopped number: the end, or more names
abbrev Following : ℕ → ℕ × ℕ → List ℕ → Type 0
Following bound p [] = p.1 ≡ 10
Following bound p (t ∷ ts) = (p.1 ≡ 32) × IsRising (p.0 + 1) bound (t ∷ ts)

abbrev past_text : ℕ × ℕ → List ℕ → List ℕ
past_text p [] = []
past_text p (t ∷ ts) = codes "t" ++ (decimal t ++ names_line ts)

abbrev after_reader : ℕ → ℕ → ℕ × ℕ → Reader (List ℕ)
after_reader fuel bound p = if p.1 == 10 then (λ rest. Ok ([], rest)) else after_word (codes "t") (tail_at fuel (p.0 + 1) bound)

stop_cases : (bound v c : ℕ) → may_stop true bound v c ≡ true → (c ≡ 10) ⊎ ((c ≡ 32) × (v + 1 < bound))
stop_cases bound v c e = grind (arith, nat_tests)

stop_space : (bound v : ℕ) → v + 1 < bound → may_stop true bound v 32 ≡ true
stop_space bound v h = grind (arith, nat_tests)

only_nil : (bound : ℕ) (p : ℕ × ℕ) → p.1 ≡ 10 → (ts : List ℕ) → Following bound p ts → ts ≡ []
only_nil bound p e [] h = refl
only_nil bound p e (t ∷ ts) h = absurd (omega (arith, e, h.0))

-- after a newline nothing comes
after_end : (fuel bound : ℕ) (p : ℕ × ℕ) → p.1 ≡ 10 → IsCode (Following bound p) (past_text p) (after_reader fuel bound p)
after_end fuel bound p e = rw (eq-eqb p.1 10 e) (nothing_code [] (Following bound p) (past_text p) e (only_nil bound p e) refl)

to_after : (bound : ℕ) (p : ℕ × ℕ) → p.1 ≡ 32 → (ts : List ℕ) → IsTail (p.0 + 1) bound ts → Following bound p ts
to_after bound p e [] h = absurd h
to_after bound p e (t ∷ ts) h = (e, h)

from_after : (bound : ℕ) (p : ℕ × ℕ) → p.1 ≡ 32 → (ts : List ℕ) → Following bound p ts → IsTail (p.0 + 1) bound ts
from_after bound p e [] h = absurd (omega (arith, e, h))
from_after bound p e (t ∷ ts) h = h.1

same_after : (bound : ℕ) (p : ℕ × ℕ) (ts : List ℕ) → IsTail (p.0 + 1) bound ts → past_text p ts ≡ codes "t" ++ tail_text ts
same_after bound p [] h = absurd h
same_after bound p (t ∷ ts) h = refl

-- after a space a higher name comes
after_space : (fuel bound : ℕ) (p : ℕ × ℕ) → p.1 ≡ 32 → p.0 + 1 < bound → IsCode (IsTail (p.0 + 1) bound) tail_text (tail_at fuel (p.0 + 1) bound) → IsCode (Following bound p) (past_text p) (after_reader fuel bound p)
after_space fuel bound p e fits code =
    let no : (p.1 == 10) ≡ false = grind (arith, nat_tests) in
    let some : (ts : List ℕ) × IsTail (p.0 + 1) bound ts = ((p.0 + 1) ∷ [], (omega arith, fits, tt)) in
    let word = lawful_code (word_code code (codes "t") some) (past_text p) (same_after bound p) in
    rw no (same_code word (Following bound p) (past_text p) (λ ts. refl) (to_after bound p e) (from_after bound p e))

after_code : (fuel bound : ℕ) (p : ℕ × ℕ) → may_stop true bound p.0 p.1 ≡ true → (p.0 + 1 < bound → IsCode (IsTail (p.0 + 1) bound) tail_text (tail_at fuel (p.0 + 1) bound)) → IsCode (Following bound p) (past_text p) (after_reader fuel bound p)
after_code fuel bound p e code =
    elim (stop_cases bound p.0 p.1 e) [
      | inl h ↦ after_end fuel bound p h
      | inr h ↦ after_space fuel bound p h.0 h.1 (code h.1)
    ]

after_some : (bound : ℕ) (p : ℕ × ℕ) → may_stop true bound p.0 p.1 ≡ true → (ts : List ℕ) × Following bound p ts
after_some bound p e =
    elim (stop_cases bound p.0 p.1 e) [
      | inl h ↦ ([], h)
      | inr h ↦ ((p.0 + 1) ∷ [], (h.0, (omega arith, h.1, tt)))
    ]

tail_to : (least bound : ℕ) (p : ℕ × ℕ) (ts : List ℕ) → IsStopped true least bound p → Following bound p ts → IsTail least bound (p.0 ∷ ts) × (tail_text (p.0 ∷ ts) ≡ (decimal p.0 ++ p.1 ∷ []) ++ past_text p ts)
tail_to least bound p [] l h = ((l.0, l.1, tt), ap (λ c. decimal p.0 ++ c ∷ []) (sym h) ∙ sym (append-nil (decimal p.0 ++ p.1 ∷ [])))
tail_to least bound p (t ∷ ts) l h =
    let more = codes "t" ++ (decimal t ++ names_line ts) in
    ((l.0, l.1, h.1), ap (λ c. decimal p.0 ++ c ∷ more) (sym h.0) ∙ sym (append_assoc (decimal p.0) (p.1 ∷ []) more))

tail_from : (least bound : ℕ) (ts : List ℕ) → IsTail least bound ts → (q : (ℕ × ℕ) × List ℕ) × (IsStopped true least bound q.0 × Following bound q.0 q.1) × (ts ≡ q.0.0 ∷ q.1)
tail_from least bound [] h = absurd h
tail_from least bound (t ∷ []) h = (((t, 10), []), ((h.0, h.1, refl), refl), refl)
tail_from least bound (t ∷ u ∷ ts) h = (((t, 32), u ∷ ts), ((h.0, h.1, stop_space bound t (omega (arith, h.2.0, h.2.1))), (refl, h.2)), refl)

tail_code : (fuel least bound : ℕ) → bound ≤ 256 → least < bound → bound ≤ least + fuel → IsCode (IsTail least bound) tail_text (tail_at fuel least bound)
tail_code zero least bound small some fuel = absurd (omega arith)
tail_code (suc n) least bound small some fuel =
    let pair = then_code (number_from_code true least bound some small) (Following bound) past_text (after_reader n bound)
    (λ p l. after_code n bound p l.2 (λ h. tail_code n (p.0 + 1) bound small h (omega (arith, l.0))))
    (λ p l. after_some bound p l.2)
    in as_code pair (λ p. p.0.0 ∷ p.1) (IsTail least bound) tail_text (λ q l. tail_to least bound q.0 q.1 l.0 l.1) (tail_from least bound)

abbrev IsNone : List ℕ → Type 0
IsNone [] = Unit {0}
IsNone (t ∷ ts) = ⊥

none_is : (ts : List ℕ) → IsNone ts → ts ≡ []
none_is [] h = refl
none_is (t ∷ ts) h = absurd h

some_text : (bound : ℕ) (ts : List ℕ) → IsTail 0 bound ts → names_line ts ≡ codes " t" ++ tail_text ts
some_text bound [] h = absurd h
some_text bound (t ∷ ts) h = refl

none_text : (ts : List ℕ) → IsNone ts → names_line ts ≡ 10 ∷ [] ++ []
none_text [] h = refl
none_text (t ∷ ts) h = absurd h

names_apart : (bound : ℕ) (xs ys a b : List ℕ) → IsNone xs → IsTail 0 bound ys → names_line xs ++ a ≡ names_line ys ++ b → ⊥
names_apart bound [] [] a b h k e = k
names_apart bound [] (y ∷ ys) a b h k e = absurd (cc)
names_apart bound (x ∷ xs) ys a b h k e = h

names_to : (bound : ℕ) (ts : List ℕ) → IsNone ts ⊎ IsTail 0 bound ts → IsRising 0 bound ts
names_to bound [] h = tt
names_to bound (t ∷ ts) h = elim h [ inl h ↦ absurd h | inr h ↦ h ]

names_from : (bound : ℕ) (ts : List ℕ) → IsRising 0 bound ts → IsNone ts ⊎ IsTail 0 bound ts
names_from bound [] h = inl tt
names_from bound (t ∷ ts) h = inr h

pub names_code : (bound : ℕ) → 0 < bound → bound ≤ 256 → IsCode (IsRising 0 bound) names_line (names_at bound)
names_code bound some small =
    let nothing : IsCode IsNone (λ _. []) _ = nothing_code [] IsNone (λ _. []) tt none_is refl in
    let none = lawful_code (word_code nothing (10 ∷ []) ([], tt)) names_line none_text in
    let more = lawful_code (word_code (tail_code bound 0 bound small some (omega arith)) (codes " t") (0 ∷ [], (omega arith, some, tt))) names_line (some_text bound) in
    same_code (or_code none more (names_apart bound)) (IsRising 0 bound) names_line (λ ts. refl) (names_to bound) (names_from bound)
