-- What one more piece from a source does.
use Rattle.std.proofs.Common.{◌≡◌, ℕ, zero, suc, ◌+◌, ◌-◌, ◌≤◌, List, [], ◌∷◌, ◌++◌, length, length-append, append-nil, append_assoc, refl, None, Some, Ok, ap, sym, ◌∙◌, true, arith, rules, tests}
use Rattle.std.specs.Prelude.{nat_lt}
use Rattle.std.specs.Io.KnownBytes.{Consumes, Keeps, prepend_known}
use Rattle.std.specs.declared.option.Option.{Option}
use Rattle.firefly_outside.specs.Window.{Takes}
use Rattle.exact_text.specs.declared.intake.Intake.{Intake}
use Rattle.exact_text.specs.Intake.{IsFilled}

nothing_left : (xs : List ℕ) → length xs ≡ 0 → xs ≡ []
nothing_left [] e = refl
nothing_left (x ∷ xs) e = absurd (omega (arith, e))

-- nothing was consumed
pub kept_by_none : (left left' : Option (List ℕ)) (piece : List ℕ) → Consumes left left' piece → length piece ≡ 0 → Keeps left left'
kept_by_none None left' piece h e = tt
kept_by_none (Some xs) None piece h e = h
kept_by_none (Some xs) (Some ys) piece h e = sym (h ∙ ap (λ p. p ++ ys) (nothing_left piece e))

-- what was consumed is held after the rest
moved : (left left' : Option (List ℕ)) (old new piece : List ℕ) → Consumes left left' piece → new ≡ old ++ piece → Keeps (prepend_known old left) (prepend_known new left')
moved None left' old new piece h e = tt
moved (Some xs) None old new piece h e = h
moved (Some xs) (Some ys) old new piece h e = ap (λ w. w ++ ys) e ∙ append_assoc old piece ys ∙ ap (λ l. old ++ l) (sym h)

pub filled : (old new : Intake) (left left' : Option (List ℕ)) (before now most n : ℕ) → new.budget ≡ old.budget → new.lines ≡ old.lines → new.given ≡ old.given + n → most ≤ old.budget - old.given
    → Takes most left left' old.window new.window n → IsFilled old new left left' before now (Ok (nat_lt 0 n))
filled old new left left' before now most zero b l g m t =
    let same : new.window ≡ old.window = t.following ∙ ap (λ p. old.window ++ p) (nothing_left t.piece t.count) ∙ append-nil old.window in
    ((b, l), same, omega (arith, b, g, ap length same), kept_by_none left left' t.piece t.consumed t.count, t.at_end refl)
filled old new left left' before now most (suc n) b l g m t =
    let some : nat_lt 0 (suc n) ≡ true = search (rules, tests) in
    rw some ((b, l), omega (arith, g), omega (arith, b, g, m, t.bounded, t.count, ap length t.following, length-append old.window t.piece), moved left left' old.window new.window t.piece t.consumed t.following)

-- the counts stay in their bounds
pub still_within : (most given budget lines n : ℕ) (left left' : Option (List ℕ)) (old new : List ℕ) → lines + length old ≤ given → given ≤ budget → most ≤ budget - given → Takes most left left' old new n
    → (lines + length new ≤ given + n) × (given + n ≤ budget)
still_within most given budget lines n left left' old new r w m t =
    (omega (arith, r, t.count, ap length t.following, length-append old t.piece), omega (arith, w, m, t.bounded))
