-- The lines of an index text, read exactly.
use Rattle.std.proofs.Common.{◌≡◌, ◌⊎◌, inl, inr, ℕ, ◌^◌, ◌<◌, ◌≤◌, List, [], ◌∷◌, ◌++◌, arith, refl, sym, ap, ◌∙◌, append_assoc, Option, None, Err}
use Rattle.std.specs.Prelude.{codes, decimal}
use Rattle.exact_text.specs.declared.stop.Stop.TheVariants.{Dead}
use Rattle.exact_text.specs.Codes.{IsCode}
use Rattle.exact_text.proofs.CodeLaws.{then_code, as_code, or_code, same_code, word_code, AreApart}
use Rattle.exact_text.proofs.Numbers.{number_code}
use Rattle.text_output.specs.Paths.{escaped, newline}
use Rattle.index_print.specs.Text.{hit_line, skipped_line}
use Rattle.index_text.specs.Numerals.{numeral}
use Rattle.index_text.specs.Texts.{IsFigure, IsHit}
use Rattle.index_text.specs.Lines.{Heading, word, skipped, key_at, figure_at, word_heading_at, heading_at, hit_from, hit_prefix_at, hit_at, skipped_at}
use Rattle.index_text.proofs.Numerals.{numeral_code}
use Rattle.index_text.specs.Next.{IsLast, IsKey, IsLastPath, IsNext, IsHeading, heading_text}
use Rattle.index_text.proofs.WordCode.{key_code}
use Rattle.index_text.proofs.PathCode.{path_text, path_code, some_next}

pub figure_code : (stop : ℕ) → stop < 48 → IsCode IsFigure (λ n. decimal n ++ stop ∷ []) (figure_at stop)
figure_code stop low = number_code 1 (2 ^ 64) stop (omega arith) (omega arith) (omega arith) low

one_figure : IsFigure 1
one_figure = (omega arith, omega arith)

abbrev IsWordHeading : Option (List ℕ) → Heading → Type 0
IsWordHeading last (word w n) = IsKey last w × (1 ≤ n)
IsWordHeading last (skipped p) = ⊥

abbrev IsSkippedHeading : Heading → Type 0
IsSkippedHeading (word w n) = ⊥
IsSkippedHeading (skipped p) = IsNext None p

pub word_text : (w : List ℕ) (n : ℕ) → heading_text (word w n) ≡ (w ++ 32 ∷ []) ++ (numeral n ++ 10 ∷ [])
word_text w n = append_assoc (w ++ 32 ∷ []) (numeral n) newline

word_heading_from : (last : Option (List ℕ)) (x : Heading) → IsWordHeading last x → (p : List ℕ × ℕ) × (IsKey last p.0 × (1 ≤ p.1)) × (x ≡ word p.0 p.1)
word_heading_from last (word w n) h = ((w, n), h, refl)
word_heading_from last (skipped p) h = absurd h

word_heading_code : (last : Option (List ℕ)) → IsLast last → IsCode (IsWordHeading last) heading_text (word_heading_at last)
word_heading_code last ok =
    as_code (then_code (key_code last ok) (λ _ n. 1 ≤ n) (λ _ n. numeral n ++ 10 ∷ []) _ (λ _ _. numeral_code 10 (omega arith)) (λ _ _. (1, omega arith)))
    (λ p. word p.0 p.1) (IsWordHeading last) heading_text (λ p h. (h, word_text p.0 p.1)) (word_heading_from last)

pub skipped_code : (last : Option (List ℕ)) → IsLastPath last → IsCode (IsNext last) skipped_line (skipped_at last)
skipped_code last ok =
    same_code (word_code (path_code last ok) (codes "skipped: ") (some_next last ok)) (IsNext last) skipped_line (λ p. append_assoc (codes "skipped: ") (escaped p) newline) (λ p h. h) (λ p h. h)

skipped_heading_from : (x : Heading) → IsSkippedHeading x → (p : List ℕ) × IsNext None p × (x ≡ skipped p)
skipped_heading_from (word w n) h = absurd h
skipped_heading_from (skipped p) h = (p, h, refl)

no_key : (last : Option (List ℕ)) (rest : List ℕ) → key_at last (codes "skipped: " ++ rest) ≡ Err Dead
no_key last rest = refl

headings_apart : (last : Option (List ℕ)) → IsLast last → AreApart (IsWordHeading last) IsSkippedHeading heading_text
headings_apart last ok (word w n) (skipped p) a b h k e =
    let left : heading_text (word w n) ++ a ≡ (w ++ 32 ∷ []) ++ ((numeral n ++ 10 ∷ []) ++ a) = ap (λ l. l ++ a) (word_text w n) ∙ append_assoc (w ++ 32 ∷ []) (numeral n ++ 10 ∷ []) a in
    let right : skipped_line p ++ b ≡ codes "skipped: " ++ ((escaped p ++ newline) ++ b) = ap (λ l. l ++ b) (append_assoc (codes "skipped: ") (escaped p) newline) ∙ append_assoc (codes "skipped: ") (escaped p ++ newline) b in
    let found = (key_code last ok).again w ((numeral n ++ 10 ∷ []) ++ a) h.0 in
    let dead = no_key last ((escaped p ++ newline) ++ b) in
    let same = ap (key_at last) (sym left ∙ e ∙ right) in
    let bad = sym found ∙ same ∙ dead in
    absurd (cc)
headings_apart last ok (word w n) (word v m) a b h k e = absurd k
headings_apart last ok (skipped q) y a b h k e = absurd h

heading_to : (last : Option (List ℕ)) (x : Heading) → IsWordHeading last x ⊎ IsSkippedHeading x → IsHeading last x
heading_to last (word w n) h = elim h [ inl k ↦ k | inr k ↦ absurd k ]
heading_to last (skipped p) h = elim h [ inl k ↦ absurd k | inr k ↦ k ]

heading_from : (last : Option (List ℕ)) (x : Heading) → IsHeading last x → IsWordHeading last x ⊎ IsSkippedHeading x
heading_from last (word w n) h = inl h
heading_from last (skipped p) h = inr h

pub heading_code : (last : Option (List ℕ)) → IsLast last → IsCode (IsHeading last) heading_text (heading_at last)
heading_code last ok =
    let none : IsLastPath None = tt in
    let second = as_code (skipped_code None none) skipped IsSkippedHeading heading_text (λ p h. (h, refl)) skipped_heading_from in
    same_code (or_code (word_heading_code last ok) second (headings_apart last ok)) (IsHeading last) heading_text (λ x. refl) (heading_to last) (heading_from last)

abbrev pub prefix_text : ℕ × ℕ → List ℕ
prefix_text p = codes "  " ++ ((decimal p.0 ++ 32 ∷ []) ++ (decimal p.1 ++ 32 ∷ []))

-- the numbers of the line of a file
pub hit_prefix_code : IsCode (λ (p : ℕ × ℕ). IsFigure p.0 × IsFigure p.1) prefix_text hit_prefix_at
hit_prefix_code =
    let numbers = then_code (figure_code 32 (omega arith)) (λ _ n. IsFigure n) (λ _ n. decimal n ++ 32 ∷ []) _ (λ _ _. figure_code 32 (omega arith)) (λ _ _. (1, one_figure)) in
    word_code numbers (codes "  ") ((1, 1), (one_figure, one_figure))

pub line_text : (c l : ℕ) (p : List ℕ) → hit_line (record { path = p; count = c; line = l }) ≡ prefix_text (c, l) ++ (escaped p ++ newline)
line_text c l p = simp append_assoc

pub hit_code : (last : Option (List ℕ)) → IsLastPath last → IsCode (IsHit last) hit_line (hit_at last)
hit_code last ok =
    as_code (then_code hit_prefix_code (λ _ p. IsNext last p) (λ _ p. path_text p) _ (λ _ _. path_code last ok) (λ _ _. some_next last ok)) hit_from (IsHit last) hit_line
    (λ x h. (record { path = h.1.0; above = h.1.1; count = h.0.0; line = h.0.1 }, line_text x.0.0 x.0.1 x.1))
    (λ h k. (((h.count, h.line), h.path), ((k.count, k.line), (k.path, k.above)), refl))
