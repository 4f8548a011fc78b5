-- A path is a directory's path and a name in one way only.
use Rattle.std.proofs.Common.{◌≡◌, ◌≢◌, ℕ, ◌+◌, ◌<◌, [], ◌∷◌, ◌++◌, length, get_or, sym, ◌∙◌, ap, subst, refl, arith, length-append, lit<, nat_eq, ◌≤◌}
use Rattle.std.specs.Prelude.{MatchOption, Option, Some, None, take, drop}
use Rattle.std.specs.Borrow.{Bor}
use Rattle.std.specs.List.{All}
use Rattle.std.specs.Str.{NoCharPasses}
use Rattle.std.specs.Str.Pattern.{RFindsChar}
use Rattle.std.proofs.lemmas.Str.Pattern.{NoCharPasses-char, drop_at_char}
use Rattle.std.proofs.lemmas.List.{get_or_default, take-append-drop}
use Rattle.std.proofs.lemmas.Grind.{common_steps}
use Rattle.firefly_outside.specs.Trees.{Path, child, slash}

plain-at : (e m : Path) → get_or (e ++ slash ∷ m) (length e) 0 ≡ slash
plain-at e m = grind (arith, common_steps)

-- a text with no slash isn't one with a slash
pub plain-slash : (n e m : Path) → n ≡ e ++ slash ∷ m → All (λ b. b ≢ slash) n → ⊥
plain-slash n e m same plain =
    let shorter : length e < length n = omega (arith, ap length same, length-append e (slash ∷ m)) in
    plain (length e) 0 shorter (ap (λ s. get_or s (length e) 0) same ∙ plain-at e m)

-- two names after the same byte are the same
pub child-unique : (d e n m : Path) → child d n ≡ child e m → All (λ b. b ≢ slash) n → All (λ b. b ≢ slash) m → (d ≡ e) × (n ≡ m)
child-unique [] [] n m same first second = (refl, cc)
child-unique [] (y ∷ e) n m same first second = absurd (plain-slash n e m (cc) first)
child-unique (x ∷ d) [] n m same first second = absurd (plain-slash m d n (cc) second)
child-unique (x ∷ d) (y ∷ e) n m same first second =
    let tails : child d n ≡ child e m = cc in
    let rest : (d ≡ e) × (n ≡ m) = child-unique d e n m tails first second in
    let heads : x ≡ y = cc in
    (cc (rest.0, heads), rest.1)

-- a text in which no character is the slash has no byte that is
plain-from_chars : (bs : Path) → NoCharPasses (λ b. nat_eq b slash) bs → All (λ b. b ≢ slash) bs
plain-from_chars bs none k d within same =
    NoCharPasses-char slash bs k none (lit< tt) within (get_or_default bs k 0 d within ∙ same)

-- what the clause of `rsplit_once` at the slash says of the two parts
pub split_last_parts : (bs : Path) (r : Option (Bor Path × Bor Path))
    → MatchOption r (RFindsChar slash bs None) (λ x. (i : ℕ) × (j : ℕ) × RFindsChar slash bs (Some (i, j)) × (x.0.now ≡ take i bs) × (x.1.now ≡ drop j bs) × (i ≤ j) × (length x.0.now ≡ i) × (length x.1.now + j ≡ length bs))
    → MatchOption r (All (λ b. b ≢ slash) bs) (λ p. (bs ≡ child p.0.now p.1.now) × All (λ b. b ≢ slash) p.1.now)
split_last_parts bs None h = plain-from_chars bs h
split_last_parts bs (Some x) h = (
  sym (take-append-drop h.0 bs) ∙ (λ k. sym h.3 k ++ (drop_at_char slash bs h.0 h.1 h.2.1 (lit< tt) ∙ ap (λ l. slash ∷ l) (sym h.4)) k),
  plain-from_chars x.1.now (subst (NoCharPasses (λ b. nat_eq b slash)) (sym h.4) h.2.0),
)
