-- A language whose texts begin with a line, and go on in a language that this line decides.
use Rattle.std.proofs.Common.{◌≡◌, ℕ, suc, ◌+◌, ◌-◌, ◌<◌, ◌⊎◌, inl, inr, List, [], ◌∷◌, ◌++◌, length, length-append, refl, ap, sym, subst, ◌∙◌, append_assoc, append-nil, Ok, Err, arith}
use Rattle.std.proofs.lemmas.Bool.{ne_eqb}
use Rattle.std.proofs.lemmas.Bool.Decides.{eqb_tells}
use Rattle.std.specs.declared.result.Result.{Result}
use Rattle.exact_text.specs.declared.stop.Stop.{Stop}
use Rattle.exact_text.specs.declared.stop.Stop.TheVariants.{More, Dead}
use Rattle.exact_text.specs.Codes.{IsCode}
use Rattle.exact_text.specs.Prefixes.{Begins, first_lines, newlines, IsBrokenAt, IsCutShortAt, IsFlat, IsLine}
use Rattle.exact_text.specs.Unfolds.{IsLineAnd, Unfolds}
use Rattle.exact_text.proofs.CodeLaws.{stays, ok_injective}

pub IsFlat-append : (xs ys : List ℕ) → IsFlat xs → IsFlat ys → IsFlat (xs ++ ys)
IsFlat-append [] ys p q = q
IsFlat-append (x ∷ xs) ys p q = (p.0, IsFlat-append xs ys p.1 q)

pub line_some : (line : List ℕ) → IsLine line → 0 < length line
line_some line l = omega (arith, ap length l.2, length-append l.0 (10 ∷ []))

pub first_line : (body rest : List ℕ) → IsFlat body → first_lines 1 (body ++ 10 ∷ rest) ≡ body ++ 10 ∷ []
first_line [] [] p = refl
first_line [] (c ∷ rest) p = refl
first_line (x ∷ body) rest p = rw (ne_eqb x 10 p.0) (ap (λ l. x ∷ l) (first_line body rest p.1))

pub first_line_of : (line rest : List ℕ) → IsLine line → first_lines 1 (line ++ rest) ≡ line
first_line_of line rest l =
    let e : line ++ rest ≡ l.0 ++ 10 ∷ rest = ap (λ x. x ++ rest) l.2 ∙ append_assoc l.0 (10 ∷ []) rest in
    ap (first_lines 1) e ∙ first_line l.0 rest l.1 ∙ sym l.2

-- the first line is all of the bytes, or a line with more after it
abbrev pub Cuts : List ℕ → Type 0
Cuts bytes = (first_lines 1 bytes ≡ bytes) ⊎ ((rest : List ℕ) × (bytes ≡ first_lines 1 bytes ++ rest) × IsLine (first_lines 1 bytes))

pub first_lines-zero : (bytes : List ℕ) → first_lines 0 bytes ≡ []
first_lines-zero [] = refl
first_lines-zero (c ∷ bytes) = refl

pub cuts : (bytes : List ℕ) → Cuts bytes
cuts [] = inl refl
cuts (c ∷ bytes) =
    elim (eqb_tells c 10) [
      | inl p ↦
          let f : first_lines 1 (c ∷ bytes) ≡ c ∷ [] = rw p.0 (ap (λ l. c ∷ l) (first_lines-zero bytes)) in
          inr (bytes, ap (λ l. l ++ bytes) (sym f), ([], tt, f ∙ ap (λ d. d ∷ []) p.1))
      | inr p ↦
          let f : first_lines 1 (c ∷ bytes) ≡ c ∷ first_lines 1 bytes = rw p.0 refl in
          elim (cuts bytes) [
            | inl e ↦ inl (f ∙ ap (λ l. c ∷ l) e)
            | inr r ↦ inr (r.0, ap (λ l. c ∷ l) r.1 ∙ ap (λ l. l ++ r.0) (sym f), (c ∷ r.2.0, (p.1, r.2.1), f ∙ ap (λ l. c ∷ l) r.2.2))
          ]
    ]

pub newlines-flat : (bytes : List ℕ) → IsFlat bytes → newlines bytes ≡ 0
newlines-flat [] p = refl
newlines-flat (c ∷ bytes) p = rw (ne_eqb c 10 p.0) (omega (arith, newlines-flat bytes p.1))

-- a prefix of a line that lacks something is flat
pub flat_prefix : (bytes more body : List ℕ) → IsFlat body → bytes ++ more ≡ body ++ 10 ∷ [] → 0 < length more → IsFlat bytes
flat_prefix [] more body p e some = tt
flat_prefix (c ∷ bytes) more [] p e some =
    let tail : bytes ++ more ≡ [] = cc in
    let n : length (bytes ++ more) ≡ 0 = ap length tail in
    absurd (omega (arith, length-append bytes more))
flat_prefix (c ∷ bytes) more (x ∷ body) p e some =
    let head : c ≡ x = cc in
    let tail : bytes ++ more ≡ body ++ 10 ∷ [] = cc in
    (λ h. p.0 (sym head ∙ h), flat_prefix bytes more body p.1 tail some)

first_lines-body : (body rest : List ℕ) (k : ℕ) → IsFlat body → first_lines (suc k) (body ++ 10 ∷ rest) ≡ body ++ 10 ∷ first_lines k rest
first_lines-body [] rest k p = refl
first_lines-body (c ∷ body) rest k p = rw (ne_eqb c 10 p.0) (ap (λ l. c ∷ l) (first_lines-body body rest k p.1))

-- the first lines of a line and a rest
pub first_lines-line : (line rest : List ℕ) (k : ℕ) → IsLine line → first_lines (suc k) (line ++ rest) ≡ line ++ first_lines k rest
first_lines-line line rest k l =
    let e : line ++ rest ≡ l.0 ++ 10 ∷ rest = ap (λ x. x ++ rest) l.2 ∙ append_assoc l.0 (10 ∷ []) rest in
    ap (first_lines (suc k)) e ∙ first_lines-body l.0 rest k l.1 ∙ sym (append_assoc l.0 (10 ∷ []) (first_lines k rest)) ∙ ap (λ x. x ++ first_lines k rest) (sym l.2)

newlines-body : (body rest : List ℕ) → IsFlat body → newlines (body ++ 10 ∷ rest) ≡ 1 + newlines rest
newlines-body [] rest p = refl
newlines-body (c ∷ body) rest p = rw (ne_eqb c 10 p.0) (omega (arith, newlines-body body rest p.1))

pub newlines-line : (line rest : List ℕ) → IsLine line → newlines (line ++ rest) ≡ 1 + newlines rest
newlines-line line rest l =
    ap newlines (ap (λ x. x ++ rest) l.2 ∙ append_assoc l.0 (10 ∷ []) rest) ∙ newlines-body l.0 rest l.1

pub line_grammar : {X : Type 0} {lawful : X → Type 0} {text : X → List ℕ} {Next : X → List ℕ → Type 0} → ((x : X) → lawful x → (rest : List ℕ) × Next x rest) → (x : X) × lawful x → ((x : X) → lawful x → IsLine (text x)) → Unfolds (IsLineAnd lawful text Next) lawful text Next
line_grammar goes_on some lines = record {
  opens = λ bytes t. t;
  closes = λ x rest l n. (x, rest, l, n, refl);
  goes_on = goes_on;
  some = some;
  lines = lines;
}

module _ {X : Type 0} {Text : List ℕ → Type 0} {lawful : X → Type 0} {text : X → List ℕ} {Next : X → List ℕ → Type 0} {read : List ℕ → Result (X × List ℕ) Stop} (grammar : Unfolds Text lawful text Next) (code : IsCode lawful text read) where
  -- what begins with another line is no text
  pub no_text : (bytes more : List ℕ) → read bytes ≡ Err Dead → Text (bytes ++ more) → ⊥
  no_text bytes more e t =
      let o = grammar.opens (bytes ++ more) t in
      let d = code.dead bytes more e in
      let a = ap read o.4 ∙ code.again o.0 o.1 o.2 in
      absurd (cc)

  pub prefix : (bytes : List ℕ) → read bytes ≡ Err More → Begins Text bytes
  prefix bytes e =
      let m = code.more bytes e in
      let g = grammar.goes_on m.0 m.2 in
      (m.1 ++ g.0, subst Text (ap (λ l. l ++ g.0) (sym m.3) ∙ append_assoc bytes m.1 g.0) (grammar.closes m.0 g.0 m.2 g.1))

  pub empty_prefix : Begins Text []
  empty_prefix =
      let s = grammar.some in
      let g = grammar.goes_on s.0 s.1 in
      (text s.0 ++ g.0, grammar.closes s.0 g.0 s.1 g.1)

  -- where a line was read, what is left is a text of the next language just where the whole is one of this
  pub text_goes_on : (bytes rest : List ℕ) (x : X) → read bytes ≡ Ok (x, rest) → Text bytes → Next x rest
  text_goes_on bytes rest x e t =
      let o = grammar.opens bytes t in
      let a : Ok (o.0, o.1) ≡ Ok (x, rest) = sym (ap read o.4 ∙ code.again o.0 o.1 o.2) ∙ e in
      let P : X × List ℕ → Type 0 = λ p. Next p.0 p.1 in
      subst P (ok_injective a) o.3

  pub text_from : (bytes rest : List ℕ) (x : X) → read bytes ≡ Ok (x, rest) → Next x rest → Text bytes
  text_from bytes rest x e n =
      let f = code.found bytes rest x e in
      subst Text (sym f.1) (grammar.closes x rest f.0 n)

  pub prefix_goes_on : (bytes rest : List ℕ) (x : X) → read bytes ≡ Ok (x, rest) → Begins Text bytes → Begins (Next x) rest
  prefix_goes_on bytes rest x e b = (b.0, text_goes_on (bytes ++ b.0) (rest ++ b.0) x (stays code bytes rest b.0 x e) b.1)

  pub prefix_from : (bytes rest : List ℕ) (x : X) → read bytes ≡ Ok (x, rest) → Begins (Next x) rest → Begins Text bytes
  prefix_from bytes rest x e b = (b.0, text_from (bytes ++ b.0) (rest ++ b.0) x (stays code bytes rest b.0 x e) b.1)

  pub text_back : (x : X) → lawful x → (rest : List ℕ) → Text (text x ++ rest) → Next x rest
  text_back x l rest t = text_goes_on (text x ++ rest) rest x (code.again x rest l) t

  pub begins_back : (x : X) → lawful x → (rest : List ℕ) → Begins Text (text x ++ rest) → Begins (Next x) rest
  begins_back x l rest b = prefix_goes_on (text x ++ rest) rest x (code.again x rest l) b

  pub begins_after : (x : X) → lawful x → (rest : List ℕ) → Begins (Next x) rest → Begins Text (text x ++ rest)
  begins_after x l rest b = prefix_from (text x ++ rest) rest x (code.again x rest l) b

  -- what begins with another line is broken there, however it goes on
  pub broken : (bytes more : List ℕ) → read bytes ≡ Err Dead → IsBrokenAt Text (bytes ++ more) 1
  broken bytes more e =
      let all = bytes ++ more in record {
        counted = omega arith;
        before = subst (Begins Text) (sym (first_lines-zero all)) empty_prefix;
        broken = λ b.
            elim (cuts all) [
              | inl same ↦
                  let t : Text (all ++ b.0) = subst (λ l. Text (l ++ b.0)) same b.1 in
                  no_text bytes (more ++ b.0) e (subst Text (append_assoc bytes more b.0) t)
              | inr c ↦
                  let line = first_lines 1 all in
                  let o = grammar.opens (line ++ b.0) b.1 in
                  let same : line ≡ text o.0 = sym (first_line_of line b.0 c.2) ∙ ap (first_lines 1) o.4 ∙ first_line_of (text o.0) o.1 (grammar.lines o.0 o.2) in
                  let whole : all ≡ text o.0 ++ c.0 = c.1 ∙ ap (λ l. l ++ c.0) same in
                  let d = code.dead bytes more e in
                  let a = ap read whole ∙ code.again o.0 c.0 o.2 in
                  absurd (cc)
            ];
      }

  -- what ends in mid-line is cut short there
  pub cut_short : (bytes : List ℕ) → read bytes ≡ Err More → IsCutShortAt Text bytes 1
  cut_short bytes e =
      let m = code.more bytes e in
      let l = grammar.lines m.0 m.2 in
      let some : 0 < length m.1 =
      elim m.1 as (λ r. bytes ++ r ≡ text m.0 → 0 < length r) [
        | [] ↦ λ h.
            let a = ap read (sym (append-nil bytes) ∙ h ∙ sym (append-nil (text m.0))) ∙ code.again m.0 [] m.2 in absurd (cc)
        | c ∷ r ↦ λ h. omega arith
      ] m.3
      in record {
        prefix = prefix bytes e;
        no_text = λ t.
            let o = grammar.opens bytes t in
            let a = ap read o.4 ∙ code.again o.0 o.1 o.2 in
            absurd (cc);
        last = omega (arith, newlines-flat bytes (flat_prefix bytes m.1 l.0 l.1 (m.3 ∙ l.2) some));
      }

  -- after a line of the text, what is broken or cut short is so in the whole
  pub broken_after : (x : X) → lawful x → (input : List ℕ) (k : ℕ) → IsBrokenAt (Next x) input k → IsBrokenAt Text (text x ++ input) (k + 1)
  broken_after x l input k b =
      let line = grammar.lines x l in
      let low : k + 1 - 1 ≡ suc (k - 1) = omega (arith, b.counted) in
      let high : k + 1 ≡ suc k = omega arith in record {
        counted = omega arith;
        before = subst (Begins Text) (sym (ap (λ m. first_lines m (text x ++ input)) low ∙ first_lines-line (text x) input (k - 1) line)) (begins_after x l (first_lines (k - 1) input) b.before);
        broken = λ t. b.broken (begins_back x l (first_lines k input) (subst (Begins Text) (ap (λ m. first_lines m (text x ++ input)) high ∙ first_lines-line (text x) input k line) t));
      }

  pub cut_short_after : (x : X) → lawful x → (input : List ℕ) (k : ℕ) → IsCutShortAt (Next x) input k → IsCutShortAt Text (text x ++ input) (k + 1)
  cut_short_after x l input k c = record {
    prefix = begins_after x l input c.prefix;
    no_text = λ t. c.no_text (text_back x l input t);
    last = omega (arith, c.last, newlines-line (text x) input (grammar.lines x l));
  }

-- bytes without a newline are their first line
pub no_newline : (bytes : List ℕ) (m : ℕ) → newlines bytes ≡ 0 → first_lines (suc m) bytes ≡ bytes
no_newline [] m e = refl
no_newline (c ∷ bytes) m e =
    elim (eqb_tells c 10) [
      | inl p ↦ let one : 1 + newlines bytes ≡ 0 = rw p.0 at e in absurd (omega arith)
      | inr p ↦ let none : 0 + newlines bytes ≡ 0 = rw p.0 at e in rw p.0 (ap (λ l. c ∷ l) (no_newline bytes m (omega arith)))
    ]
