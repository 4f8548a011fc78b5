-- What one use of an argument does to the rows, and when it fails.
use Rattle.std.proofs.Common.{◌≡◌, ◌∙◌, ◌&&◌, ◌||◌, Bool, true, false, cond, List, [], ◌∷◌, ◌++◌, Option, Some, None, append-nil, ap, sym, refl}
use Rattle.std.specs.Str.{bytes_eq}
use Rattle.clap.specs.Kinds.{Kinds, or_else}
use Rattle.clap.specs.Walk.{Held, Row, Rule, at_row, has_row, more_values, reading_by, settled, used, used_by_id, with_values, without}
use Rattle.clap.specs.Faults.{settle_fault, use_fault}
use Rattle.clap.specs.declared.parser.matches.ValueSource.TheVariants.{CommandLine}
use Rattle.clap.specs.declared.error.kind.ErrorKind.TheVariants as kind
use Rattle.command_line.specs.Grammar.{Setting, Text}
use Rattle.command_line.proofs.Shape.{Key, dir, id_of, rule_at, rule_by_id, rules, set}

-- the row of an argument that was given once
abbrev pub row_at : Key → Text → Row
row_at k text = record {
  id = id_of k;
  values = text ∷ [];
  count = None;
  source = Some CommandLine;
  reading = reading_by (rule_at k);
}

at_row-fresh : (id : Text) (change : Row → List Row) (missing rows : List Row) → has_row id rows ≡ false → at_row id change missing rows ≡ rows ++ missing
at_row-fresh id change missing [] e = refl
at_row-fresh id change missing (r ∷ rs) e = go (bytes_eq r.id id) e (at_row-fresh id change missing rs)
  where
    go : (b : Bool) → (b || has_row id rs) ≡ false → (has_row id rs ≡ false → at_row id change missing rs ≡ rs ++ missing)
        → cond b (change r ++ rs) (r ∷ at_row id change missing rs) ≡ r ∷ (rs ++ missing)
    go true e ih = cc
    go false e ih = ap (λ xs. r ∷ xs) (ih e)

without-fresh : (id : Text) (rows : List Row) → has_row id rows ≡ false → without id rows ≡ rows
without-fresh id rows e = at_row-fresh id (λ _. []) [] rows e ∙ append-nil rows

used_as-set : (k : Key) (text : Text) (rows : List Row)
    → used (rule_at k) (text ∷ []) rows ≡ with_values (id_of k) (reading_by (rule_at k)) CommandLine (text ∷ []) (without (id_of k) rows)
used_as-set dir text rows = refl
used_as-set (set s) text rows = refl

-- a first use adds a row
pub used-fresh : (k : Key) (text : Text) (rows : List Row) → has_row (id_of k) rows ≡ false → used (rule_at k) (text ∷ []) rows ≡ rows ++ row_at k text ∷ []
used-fresh k text rows e =
    used_as-set k text rows
    ∙ ap (with_values (id_of k) (reading_by (rule_at k)) CommandLine (text ∷ [])) (without-fresh (id_of k) rows e)
    ∙ at_row-fresh (id_of k) (more_values CommandLine (text ∷ [])) (row_at k text ∷ []) rows e

abbrev again_fault : Bool → Kinds
again_fault b = cond (b && true) (kind.ArgumentConflict ∷ []) []

use_fault-is : (k : Key) (text : Text) (rows : List Row) → use_fault false (rule_at k) (text ∷ []) rows ≡ or_else (again_fault (has_row (id_of k) rows)) []
use_fault-is dir text rows = refl
use_fault-is (set s) text rows = refl

-- a first use of an argument with a value never fails, and a second always does
pub use_fault-fresh : (k : Key) (text : Text) (rows : List Row) → has_row (id_of k) rows ≡ false → use_fault false (rule_at k) (text ∷ []) rows ≡ []
use_fault-fresh k text rows e = use_fault-is k text rows ∙ ap (λ b. or_else (again_fault b) []) e

pub fresh-use_fault : (k : Key) (text : Text) (rows : List Row) → use_fault false (rule_at k) (text ∷ []) rows ≡ [] → has_row (id_of k) rows ≡ false
fresh-use_fault k text rows e = go (has_row (id_of k) rows) (sym (use_fault-is k text rows) ∙ e)
  where
    go : (b : Bool) → or_else (again_fault b) [] ≡ [] → b ≡ false
    go true e = cc
    go false e = refl

-- ---- an argument whose value waits to be used

abbrev pub Pending : Type 0
Pending = Option (Key × Text)

abbrev pub pending_at : Pending → Option (Text × List Text)
pending_at None = None
pending_at (Some q) = Some (id_of q.0, q.1 ∷ [])

abbrev pub held_at : List Row → Pending → Held
held_at rows p = record { rows = rows; pending = pending_at p; skip = 0 }

abbrev pub rows_with : List Row → Pending → List Row
rows_with rows None = rows
rows_with rows (Some q) = rows ++ row_at q.0 q.1 ∷ []

abbrev pub IsFresh : List Row → Pending → Type 0
IsFresh rows None = Unit {0}
IsFresh rows (Some q) = has_row (id_of q.0) rows ≡ false

by_id : (o : Option Rule) (k : Key) (text : Text) (rows : List Row) → o ≡ Some (rule_at k) → used_by_id o (text ∷ []) rows ≡ used (rule_at k) (text ∷ []) rows
by_id o k text rows e = rw e refl

pub settled-fresh : (rows : List Row) (p : Pending) → IsFresh rows p → settled rules (held_at rows p) ≡ held_at (rows_with rows p) None
settled-fresh rows None f = refl
settled-fresh rows (Some q) f =
    ap (λ (rs : List Row). held_at rs None) (by_id _ q.0 q.1 rows (rule_by_id q.0) ∙ used-fresh q.0 q.1 rows f)

settle_by_id : (k : Key) (text : Text) (rows : List Row) → settle_fault rules false (held_at rows (Some (k, text))) ≡ use_fault false (rule_at k) (text ∷ []) rows
settle_by_id k text rows = rw (rule_by_id k) refl

pub settle_fault-fresh : (rows : List Row) (p : Pending) → IsFresh rows p → settle_fault rules false (held_at rows p) ≡ []
settle_fault-fresh rows None f = refl
settle_fault-fresh rows (Some q) f = settle_by_id q.0 q.1 rows ∙ use_fault-fresh q.0 q.1 rows f

pub fresh-settle_fault : (rows : List Row) (p : Pending) → settle_fault rules false (held_at rows p) ≡ [] → IsFresh rows p
fresh-settle_fault rows None e = tt
fresh-settle_fault rows (Some q) e = fresh-use_fault q.0 q.1 rows (sym (settle_by_id q.0 q.1 rows) ∙ e)

-- an option without its value fails
abbrev pub hungry_held : List Row → Setting → Held
hungry_held rows s = record { rows = rows; pending = Some (id_of (set s), []); skip = 0 }

pub settle_fault-hungry : (rows : List Row) (s : Setting) → settle_fault rules false (hungry_held rows s) ≡ kind.InvalidValue ∷ []
settle_fault-hungry rows s = rw (rule_by_id (set s)) refl
