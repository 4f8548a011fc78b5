-- What reading an action by one word after another gives.
use Rattle.std.proofs.Common.{◌≡◌, ℕ, suc, ◌+◌, ◌<◌, ◌≤◌, List, [], ◌∷◌, length, get_or, drop, refl, ap, ◌∙◌, Bool, true, false, Ok, Err, ne_eqb, arith}
use Rattle.std.proofs.Math.Seq.{drop-cons}
use Rattle.larch_actions.specs.declared.event.Layout.{Layout}
use Rattle.larch_actions.specs.declared.event.Action.{Action}
use Rattle.larch_actions.specs.declared.rows.Word.{Word}
use Rattle.exact_text.specs.declared.stop.Stop.TheVariants.{More, Dead}
use Rattle.larch_actions.specs.Rows.{word_text, kinds_of, endings_of, made}
use Rattle.trace_core.specs.Lines.{gap_of, after_at, may_stand, row_at, rows_at}
use Rattle.exact_text.specs.Reading.{Reader, or_else, word_at, after_word, as_value, only_if}

-- the words from a place on: the one there, and those after it
from_here : (l : Layout) (ws : List Word) (i : ℕ) (d : Word) (bytes : List ℕ) → i < length ws → rows_at l (drop i ws) bytes ≡ or_else (row_at l (get_or ws i d) bytes) (rows_at l (drop (i + 1) ws) bytes)
from_here l ws i d bytes low =
    let next : suc i ≡ i + 1 = omega arith in
    ap (λ v. rows_at l v bytes) (drop-cons ws i d low) ∙ ap (λ n. or_else (row_at l (get_or ws i d) bytes) (rows_at l (drop n ws) bytes)) next

pub none_here : (l : Layout) (ws : List Word) (i : ℕ) (d : Word) (bytes : List ℕ) → i < length ws → row_at l (get_or ws i d) bytes ≡ Err Dead → rows_at l (drop i ws) bytes ≡ rows_at l (drop (i + 1) ws) bytes
none_here l ws i d bytes low e = from_here l ws i d bytes low ∙ ap (λ r. or_else r (rows_at l (drop (i + 1) ws) bytes)) e

pub more_here : (l : Layout) (ws : List Word) (i : ℕ) (d : Word) (bytes : List ℕ) → i < length ws → row_at l (get_or ws i d) bytes ≡ Err More → rows_at l (drop i ws) bytes ≡ Err More
more_here l ws i d bytes low e = from_here l ws i d bytes low ∙ ap (λ r. or_else r (rows_at l (drop (i + 1) ws) bytes)) e

pub found_here : (l : Layout) (ws : List Word) (i : ℕ) (d : Word) (bytes : List ℕ) (x : Action × List ℕ) → i < length ws → row_at l (get_or ws i d) bytes ≡ Ok x → rows_at l (drop i ws) bytes ≡ Ok x
found_here l ws i d bytes x low e = from_here l ws i d bytes low ∙ ap (λ r. or_else r (rows_at l (drop (i + 1) ws) bytes)) e

-- a first byte that is another
pub other_byte : (word bytes : List ℕ) → 1 ≤ length word → 1 ≤ length bytes → (get_or bytes 0 0 ≡ get_or word 0 0 → ⊥) → word_at word bytes ≡ Err Dead
other_byte [] bytes some any other = absurd (omega arith)
other_byte (w ∷ word) [] some any other = absurd (omega arith)
other_byte (w ∷ word) (c ∷ bytes) some any other = rw (ne_eqb c w other) refl

not_it : {X Z : Type 0} (b : Bool) (f : X → Z) (word bytes : List ℕ) (read : Reader X) → word_at word bytes ≡ Err Dead → as_value f (only_if b (after_word word read)) bytes ≡ Err Dead
not_it true f word bytes read e = rw e refl
not_it false f word bytes read e = refl

-- another word stands there
pub other_row : (l : Layout) (w : Word) (bytes : List ℕ) → word_at (word_text w) bytes ≡ Err Dead → row_at l w bytes ≡ Err Dead
other_row l w bytes e =
    not_it (may_stand l w) (λ p. made w p.0 p.1) (word_text w) bytes (after_word (gap_of (kinds_of w) (endings_of w) ∷ []) (after_at l (kinds_of w) (endings_of w))) e
