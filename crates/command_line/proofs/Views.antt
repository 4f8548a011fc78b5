-- What an offered word is: no flag, an option of the command, or a flag that the command lacks.
use Rattle.std.proofs.Common.{◌≡◌, ◌≢◌, ◌∙◌, ◌⊎◌, ◌+◌, ◌==◌, Bool, true, false, ℕ, List, [], ◌∷◌, ◌++◌, Some, None, ap, sym, refl, suc, inl, inr, arith, subst}
use Rattle.std.specs.Prelude.{slice_get}
use Rattle.std.specs.List.{after_first, before_first, position_or_len}
use Rattle.std.specs.Str.{IsUtf8, bytes_eq, chars}
use Rattle.std.proofs.lemmas.Bool.{ne_eqb}
use Rattle.std.proofs.lemmas.Bool.Decides.{eqb_tells}
use Rattle.std.proofs.lemmas.Slice.Eq.{bytes_eq-Decides}
use Rattle.std.proofs.lemmas.Str.{IsCharBoundary-after_ascii, IsUtf8-drop, encodes-chars}
use Rattle.clap.specs.Lexer.{has_byte, name_and_value}
use Rattle.clap.specs.Walk.{arg_by_long}
use Rattle.command_line.specs.Grammar.{IsDirectory, Setting, Text, mergers, name_of, parsers, stop_after, walkers}
use Rattle.command_line.specs.Reading.{IsOffered}
use Rattle.command_line.proofs.Shape.{bare_name, rules}
use Rattle.command_line.proofs.Turns.{IsShort, IsUnknownLong, with_value}

pub data View (w : Text) : Type 0 where
  plain : IsDirectory w → View w
  named : (s : Setting) → w ≡ name_of s → View w
  valued : (s : Setting) (text : Text) → w ≡ with_value s text → View w
  long : IsUnknownLong w → View w
  short : IsShort w → View w

-- ---- a name and a value

abbrev is_sign : ℕ → Bool
is_sign x = x == 61

split_sign : (xs : Text) → has_byte 61 xs ≡ true → xs ≡ before_first is_sign xs ++ 61 ∷ after_first is_sign xs
split_sign [] e = cc
split_sign (x ∷ xs) e = elim (eqb_tells x 61) [
  | inl t ↦ let yes : (x == 61) ≡ true = t.0 in rw yes (ap (λ y. y ∷ xs) t.1)
  | inr t ↦
      let no : (x == 61) ≡ false = t.0 in
      let n = position_or_len is_sign xs in
      let more : 1 + n + 1 ≡ suc (n + 1) = omega arith in
      let one : 1 + n ≡ suc n = omega arith in
      rw (no, more, one) (ap (λ ys. x ∷ ys) (split_sign xs (rw no at e)))
]

no_sign : (xs : Text) → has_byte 61 xs ≡ false → before_first is_sign xs ≡ xs
no_sign [] e = refl
no_sign (x ∷ xs) e = elim (eqb_tells x 61) [
  | inl t ↦ let yes : (x == 61) ≡ true = t.0 in let bad : true ≡ false = rw yes at e in cc
  | inr t ↦
      let no : (x == 61) ≡ false = t.0 in
      let n = position_or_len is_sign xs in
      let one : 1 + n ≡ suc n = omega arith in
      rw (no, one) (ap (λ ys. x ∷ ys) (no_sign xs (rw no at e)))
]

-- ---- the name is an option's, or the command has none such

same_text : (xs ys : Text) → bytes_eq xs ys ≡ true → ys ≡ xs
same_text xs ys e = sym ((bytes_eq-Decides xs ys).0 e)

abbrev IsKnown : Text → Type 0
IsKnown name = ((s : Setting) × (name ≡ bare_name s)) ⊎ (arg_by_long rules name ≡ None)

known : (name : Text) → IsKnown name
unfolding rules
known name = first (bytes_eq (bare_name walkers) name) refl
  where
    fourth : bytes_eq (bare_name walkers) name ≡ false → bytes_eq (bare_name parsers) name ≡ false → bytes_eq (bare_name mergers) name ≡ false
        → (b : Bool) → bytes_eq (bare_name stop_after) name ≡ b → IsKnown name
    fourth no1 no2 no3 true e = inl (stop_after, same_text _ name e)
    fourth no1 no2 no3 false e = inr (rw (no1, no2, no3, e) refl)

    third : bytes_eq (bare_name walkers) name ≡ false → bytes_eq (bare_name parsers) name ≡ false
        → (b : Bool) → bytes_eq (bare_name mergers) name ≡ b → IsKnown name
    third no1 no2 true e = inl (mergers, same_text _ name e)
    third no1 no2 false e = fourth no1 no2 e (bytes_eq (bare_name stop_after) name) refl

    second : bytes_eq (bare_name walkers) name ≡ false → (b : Bool) → bytes_eq (bare_name parsers) name ≡ b → IsKnown name
    second no1 true e = inl (parsers, same_text _ name e)
    second no1 false e = third no1 e (bytes_eq (bare_name mergers) name) refl

    first : (b : Bool) → bytes_eq (bare_name walkers) name ≡ b → IsKnown name
    first true e = inl (walkers, same_text _ name e)
    first false e = second e (bytes_eq (bare_name parsers) name) refl

name_spelt : (s : Setting) → 45 ∷ 45 ∷ bare_name s ≡ name_of s
name_spelt walkers = refl
name_spelt parsers = refl
name_spelt mergers = refl
name_spelt stop_after = refl

value_spelt : (s : Setting) (text : Text) → 45 ∷ 45 ∷ (bare_name s ++ 61 ∷ text) ≡ with_value s text
value_spelt walkers text = refl
value_spelt parsers text = refl
value_spelt mergers text = refl
value_spelt stop_after text = refl

of_known : (rest : Text) (s : Setting) → before_first is_sign rest ≡ bare_name s → View (45 ∷ 45 ∷ rest)
of_known rest s e = go (has_byte 61 rest) refl
  where
    go : (b : Bool) → has_byte 61 rest ≡ b → View (45 ∷ 45 ∷ rest)
    go true has = valued s (after_first is_sign rest)
        (ap (λ ys. 45 ∷ 45 ∷ ys) (split_sign rest has ∙ ap (λ ys. ys ++ 61 ∷ after_first is_sign rest) e) ∙ value_spelt s _)
    go false has = named s (ap (λ ys. 45 ∷ 45 ∷ ys) (sym (no_sign rest has) ∙ e) ∙ name_spelt s)

two_hyphens : (rest : Text) → 45 ∷ 45 ∷ rest ≢ 45 ∷ 45 ∷ [] → View (45 ∷ 45 ∷ rest)
two_hyphens [] o = absurd (o refl)
two_hyphens (z ∷ zs) o = elim (known (before_first is_sign (z ∷ zs))) [
  | inl k ↦ of_known (z ∷ zs) k.0 k.1
  | inr lacks ↦ long (name_and_value (z ∷ zs), refl, lacks, refl)
]

-- ---- one hyphen

first_char : (y : ℕ) (ys : Text) → IsUtf8 (y ∷ ys) → (x : ℕ) × (slice_get (chars (y ∷ ys)) 0 ≡ Some x)
first_char y ys u = go (chars (y ∷ ys)) refl
  where
    go : (cs : List ℕ) → chars (y ∷ ys) ≡ cs → (x : ℕ) × (slice_get cs 0 ≡ Some x)
    go [] e = let spelt = rw e at (encodes-chars (y ∷ ys) u) in cc
    go (x ∷ cs) e = (x, refl)

one_hyphen : (y : ℕ) (ys : Text) → y ≢ 45 → IsUtf8 (45 ∷ y ∷ ys) → View (45 ∷ y ∷ ys)
one_hyphen y ys ne u =
    let no : (y == 45) ≡ false = ne_eqb y 45 ne in
    let utf8 : IsUtf8 (y ∷ ys) = IsUtf8-drop (45 ∷ y ∷ ys) 1 u (IsCharBoundary-after_ascii (45 ∷ y ∷ ys) 0 u (omega arith) (omega arith)) in
    let x = first_char y ys utf8 in
    short (y, ys, x.0, rw no refl, rw no refl, rw no refl, x.1)

pub view : (w : Text) → IsOffered w → IsUtf8 w → View w
view [] o u = absurd (o.0 refl)
view (c ∷ rest) o u = elim (eqb_tells c 45) [
  | inl t ↦ subst (λ (a : ℕ). View (a ∷ rest)) (sym t.1) (flag rest (subst (λ (a : ℕ). IsOffered (a ∷ rest)) t.1 o) (subst (λ (a : ℕ). IsUtf8 (a ∷ rest)) t.1 u))
  | inr t ↦ plain t.1
]
  where
    flag : (rest : Text) → IsOffered (45 ∷ rest) → IsUtf8 (45 ∷ rest) → View (45 ∷ rest)
    flag [] o u = absurd (o.1 refl)
    flag (y ∷ ys) o u = elim (eqb_tells y 45) [
      | inl t ↦ subst (λ (a : ℕ). View (45 ∷ a ∷ ys)) (sym t.1) (two_hyphens ys (subst (λ (a : ℕ). 45 ∷ a ∷ ys ≢ 45 ∷ 45 ∷ []) t.1 o.2))
      | inr t ↦ one_hyphen y ys t.1 u
    ]
