-- Texts that are lines of one kind.
use Rattle.std.proofs.Common.{◌≡◌, ℕ, ◌+◌, ◌≤◌, ◌-◌, ◌⊎◌, inl, inr, List, [], ◌∷◌, ◌++◌, length, refl, ap, sym, subst, ◌∙◌, append_assoc, append-nil, Result, arith}
use Rattle.std.specs.List.{AllByRecursion, flat_map}
use Rattle.exact_text.specs.declared.stop.Stop.{Stop}
use Rattle.exact_text.specs.Codes.{IsCode}
use Rattle.exact_text.specs.Prefixes.{Begins, IsLine}
use Rattle.exact_text.specs.Exact.{lines_room}
use Rattle.exact_text.specs.Unfolds.{IsLineAnd, Unfolds, AreLines}
use Rattle.exact_text.proofs.Grammar.{line_grammar}
use Rattle.exact_text.proofs.Reaches.{Reaches, reach_here, reach_then, reach_line}
use Rattle.exact_text.proofs.Texts.{IsRoomBefore, line_before, room_then}

pub all_append : {X : Type 0} (P : X → Type 0) (xs ys : List X) → AllByRecursion P xs → AllByRecursion P ys → AllByRecursion P (xs ++ ys)
all_append P [] ys p q = q
all_append P (x ∷ xs) ys p q = (p.0, all_append P xs ys p.1 q)

module _ {X : Type 0} {lawful : X → Type 0} {text : X → List ℕ} {read : List ℕ → Result (X × List ℕ) Stop} (code : IsCode lawful text read) where
  abbrev Lines : List ℕ → Type 0
  Lines = AreLines lawful text

  abbrev SomeLines : List ℕ → Type 0
  SomeLines = IsLineAnd lawful text (λ _. Lines)

  pub lines_some : (bytes : List ℕ) → Lines bytes → (bytes ≡ []) ⊎ SomeLines bytes
  lines_some bytes ([], all, e) = inl e
  lines_some bytes (x ∷ xs, all, e) = inr (x, flat_map text xs, all.0, (xs, all.1, refl), e)

  pub lines_back : (bytes : List ℕ) → SomeLines bytes → Lines bytes
  lines_back bytes t = (t.0 ∷ t.3.0, (t.2, t.3.1), t.4 ∙ ap (λ r. text t.0 ++ r) t.3.2)

  pub no_lines : Begins Lines []
  no_lines = ([], ([], tt, refl))

  module _ (line : (x : X) → lawful x → IsLine (text x)) where
    pub lines_grammar : (x : X) × lawful x → Unfolds SomeLines lawful text (λ _. Lines)
    lines_grammar some = line_grammar (λ x l. ([], ([], tt, refl))) some line

    -- past lines
    pub reach_lines : (xs : List X) → AllByRecursion lawful xs → (rest : List ℕ) → Reaches Lines (flat_map text xs ++ rest) Lines rest (length xs)
    reach_lines [] all rest = reach_here Lines rest
    reach_lines (x ∷ xs) all rest =
        let first = reach_line lines_some lines_back (lines_grammar (x, all.0)) code x all.0 (flat_map text xs ++ rest) in
        subst (λ b. Reaches Lines b Lines rest (length (x ∷ xs))) (sym (append_assoc (text x) (flat_map text xs) rest)) (reach_then (length (x ∷ xs)) (omega arith) first (reach_lines xs all.1 rest))

    pub lines_before : (xs : List X) → AllByRecursion lawful xs → (most m : ℕ) → most ≡ length xs + m → IsRoomBefore (flat_map text xs) (lines_room most) (lines_room m)
    lines_before [] all most m e = let same : most ≡ m = omega (arith, e) in record { is = λ rest. omega (arith, ap (λ n. lines_room n rest) same) }
    lines_before (x ∷ xs) all most m e =
        room_then (text x) (flat_map text xs) (line_before (text x) (line x all.0) most (length xs + m) (omega (arith, e))) (lines_before xs all.1 (length xs + m) m refl)

    -- at most so many lines may be read whole
    pub within_lines : (xs : List X) (most : ℕ) → AllByRecursion lawful xs → length xs ≤ most → length (flat_map text xs) ≤ lines_room most (flat_map text xs)
    within_lines xs most all few =
        let room = (lines_before xs all most (most - length xs) (omega (arith, few))).is [] in
        omega (arith, room, ap (lines_room most) (append-nil (flat_map text xs)))
