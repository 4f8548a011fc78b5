-- What the walk makes of one word.
use Rattle.std.proofs.Common.{◌≡◌, ◌∙◌, ◌&&◌, ◌==◌, Bool, true, false, ℕ, List, [], ◌∷◌, ◌++◌, Option, Some, None, ap, refl}
use Rattle.std.specs.Prelude.{codes, slice_get}
use Rattle.std.specs.Str.{bytes_eq, chars}
use Rattle.std.proofs.lemmas.Bool.{ne_eqb}
use Rattle.clap.specs.Lexer.{long_of, short_of}
use Rattle.clap.specs.Kinds.{or_else}
use Rattle.clap.specs.Walk.{Held, Row, Waiting, Walk, arg_by_long, has_row, idle, is_pending, option, positional, positional_held, pushed, settled, subcommand_met, walked, used}
use Rattle.clap.specs.Faults.{flags_fault, settle_fault, turn_fault, use_fault}
use Rattle.clap.specs.declared.error.kind.ErrorKind.TheVariants as kind
use Rattle.command_line.specs.Grammar.{IsDirectory, Setting, Text, mergers, name_of, parsers, stop_after, walkers}
use Rattle.command_line.proofs.Shape.{bare_name, dir, id_of, no_other_place, no_rule_by_short, rule_at, rule_by_id, rule_by_long, rule_by_place, rules, set, shape}
use Rattle.command_line.proofs.Uses.{IsFresh, Pending, held_at, pending_at, row_at, rows_with, settle_fault-hungry, settled-fresh, used-fresh}

-- ---- where the walk stands: between two parts, or before the value of an option

abbrev pub place : Bool → ℕ
place true = 1
place false = 2

abbrev pub going : List Row → Option (Text × List Text) → Waiting → Bool → Walk
going rows pending waiting first = record {
  held = record { rows = rows; pending = pending; skip = 0 };
  waiting = waiting;
  position = place first;
  is_trailing = false;
  stopped = None;
}

abbrev pub standing : List Row → Pending → Bool → Walk
standing rows p first = going rows (pending_at p) idle first

abbrev pub hungry : List Row → Setting → Bool → Walk
hungry rows s first = going rows (Some (bare_name s, [])) (option (bare_name s)) first

and_false : (b : Bool) → (b && false) ≡ false
and_false true = refl
and_false false = refl

-- ---- a word that is no flag

no_long : (w : Text) → IsDirectory w → long_of w ≡ None
no_long [] d = absurd d
no_long (c ∷ rest) d = let no : (c == 45) ≡ false = ne_eqb c 45 d in rw no refl

no_short : (w : Text) → IsDirectory w → short_of w ≡ None
no_short [] d = absurd d
no_short (c ∷ rest) d = let no : (c == 45) ≡ false = ne_eqb c 45 d in rw no refl

no_end : (w : Text) → IsDirectory w → bytes_eq w (45 ∷ 45 ∷ []) ≡ false
no_end [] d = absurd d
no_end (c ∷ rest) d = let no : (c == 45) ≡ false = ne_eqb c 45 d in rw no refl

-- ---- a directory

held-dir : (rows : List Row) (p : Pending) (w : Text) → IsFresh rows p → positional_held rules (rule_at dir) w (held_at rows p) ≡ held_at (rows_with rows p) (Some (dir, w))
held-dir rows p w f = rw (and_false (is_pending (rule_at dir) (pending_at p))) (ap (pushed (id_of dir) w) (settled-fresh rows p f))

pub walked-dir : (rows : List Row) (p : Pending) (w : Text) → IsDirectory w → IsFresh rows p
    → walked rules [] (standing rows p true) w ≡ standing (rows_with rows p) (Some (dir, w)) false
unfolding walked
walked-dir rows p w d f =
    rw (no_end w d, no_long w d, no_short w d, rule_by_place)
    (ap (λ (h : Held). record (standing rows p false) { held = h }) (held-dir rows p w f))

-- its turn fails where the use of what waited does
pub turn_fault-dir : (rows : List Row) (p : Pending) (w : Text) → IsDirectory w
    → turn_fault shape [] (standing rows p true) w ≡ settle_fault rules false (held_at rows p)
turn_fault-dir rows p w d =
    rw (no_end w d, no_long w d, no_short w d, rule_by_place, and_false (is_pending (rule_at dir) (pending_at p))) refl

-- a second one always fails
pub turn_fault-second : (rows : List Row) (p : Pending) (w : Text) → IsDirectory w
    → turn_fault shape [] (standing rows p false) w ≡ kind.UnknownArgument ∷ []
turn_fault-second rows p w d = rw (no_end w d, no_long w d, no_short w d, no_other_place) refl

-- ---- the value of an option, in a word of its own

pub walked-value : (rows : List Row) (s : Setting) (first : Bool) (w : Text) → IsDirectory w
    → walked rules [] (hungry rows s first) w ≡ standing rows (Some (set s, w)) first
unfolding walked
walked-value rows walkers first w d = rw (no_end w d, no_long w d, no_short w d, rule_by_id (set walkers)) refl
walked-value rows parsers first w d = rw (no_end w d, no_long w d, no_short w d, rule_by_id (set parsers)) refl
walked-value rows mergers first w d = rw (no_end w d, no_long w d, no_short w d, rule_by_id (set mergers)) refl
walked-value rows stop_after first w d = rw (no_end w d, no_long w d, no_short w d, rule_by_id (set stop_after)) refl

pub turn_fault-value : (rows : List Row) (s : Setting) (first : Bool) (w : Text) → IsDirectory w
    → turn_fault shape [] (hungry rows s first) w ≡ []
turn_fault-value rows s first w d = rw (no_end w d, no_long w d, no_short w d) refl

-- ---- the name of an option, without and with a value

abbrev pub with_value : Setting → Text → Text
with_value s text = name_of s ++ codes "=" ++ text

long_name : (s : Setting) → long_of (name_of s) ≡ Some (bare_name s, None)
long_name walkers = refl
long_name parsers = refl
long_name mergers = refl
long_name stop_after = refl

end_name : (s : Setting) → bytes_eq (name_of s) (45 ∷ 45 ∷ []) ≡ false
end_name walkers = refl
end_name parsers = refl
end_name mergers = refl
end_name stop_after = refl

long_value : (s : Setting) (text : Text) → long_of (with_value s text) ≡ Some (bare_name s, Some text)
long_value walkers text = refl
long_value parsers text = refl
long_value mergers text = refl
long_value stop_after text = refl

end_value : (s : Setting) (text : Text) → bytes_eq (with_value s text) (45 ∷ 45 ∷ []) ≡ false
end_value walkers text = refl
end_value parsers text = refl
end_value mergers text = refl
end_value stop_after text = refl

pub walked-name : (rows : List Row) (p : Pending) (first : Bool) (s : Setting) → IsFresh rows p
    → walked rules [] (standing rows p first) (name_of s) ≡ hungry (rows_with rows p) s first
unfolding walked
walked-name rows p first s f =
    rw (end_name s, long_name s, rule_by_long s) (ap (λ (h : Held). hungry h.rows s first) (settled-fresh rows p f))

pub turn_fault-name : (rows : List Row) (p : Pending) (first : Bool) (s : Setting)
    → turn_fault shape [] (standing rows p first) (name_of s) ≡ or_else (settle_fault rules false (held_at rows p)) []
turn_fault-name rows p first s = rw (end_name s, long_name s, rule_by_long s) refl

pub walked-with_value : (rows : List Row) (p : Pending) (first : Bool) (s : Setting) (text : Text) → IsFresh rows p
    → has_row (bare_name s) (rows_with rows p) ≡ false
    → walked rules [] (standing rows p first) (with_value s text) ≡ standing (rows_with rows p ++ row_at (set s) text ∷ []) None first
unfolding walked
walked-with_value rows p first s text f g =
    rw (end_value s text, long_value s text, rule_by_long s)
    (ap (λ (h : Held). standing (used (rule_at (set s)) (text ∷ []) h.rows) None first) (settled-fresh rows p f)
    ∙ ap (λ (rs : List Row). standing rs None first) (used-fresh (set s) text (rows_with rows p) g))

pub turn_fault-with_value : (rows : List Row) (p : Pending) (first : Bool) (s : Setting) (text : Text)
    → turn_fault shape [] (standing rows p first) (with_value s text)
    ≡ or_else (or_else (settle_fault rules false (held_at rows p)) (use_fault false (rule_at (set s)) (text ∷ []) (settled rules (held_at rows p)).rows)) []
turn_fault-with_value rows p first s text = rw (end_value s text, long_value s text, rule_by_long s) refl

-- ---- words that fail: an option in place of a value, or a flag that the command lacks

pub turn_fault-hungry_name : (rows : List Row) (s : Setting) (first : Bool) (t : Setting)
    → turn_fault shape [] (hungry rows s first) (name_of t) ≡ kind.InvalidValue ∷ []
turn_fault-hungry_name rows s first t = rw (end_name t, long_name t, rule_by_long t, settle_fault-hungry rows s) refl

pub turn_fault-hungry_with_value : (rows : List Row) (s : Setting) (first : Bool) (t : Setting) (text : Text)
    → turn_fault shape [] (hungry rows s first) (with_value t text) ≡ kind.InvalidValue ∷ []
turn_fault-hungry_with_value rows s first t text = rw (end_value t text, long_value t text, rule_by_long t, settle_fault-hungry rows s) refl

no_subcommand : (waiting : Waiting) (w : Text) → subcommand_met [] waiting w ≡ None
no_subcommand idle w = refl
no_subcommand (option id) w = refl
no_subcommand positional w = refl

abbrev pub IsUnknownLong : Text → Type 0
IsUnknownLong w = (q : Text × Option Text) × (long_of w ≡ Some q) × (arg_by_long rules q.0 ≡ None) × (bytes_eq w (45 ∷ 45 ∷ []) ≡ false)

abbrev pub IsShort : Text → Type 0
IsShort w = (y : ℕ) × (ys : Text) × (x : ℕ) × (short_of w ≡ Some (y ∷ ys)) × (long_of w ≡ None) × (bytes_eq w (45 ∷ 45 ∷ []) ≡ false) × (slice_get (chars (y ∷ ys)) 0 ≡ Some x)

pub turn_fault-long : (rows : List Row) (pending : Option (Text × List Text)) (waiting : Waiting) (first : Bool) (w : Text) → IsUnknownLong w
    → turn_fault shape [] (going rows pending waiting first) w ≡ kind.UnknownArgument ∷ []
turn_fault-long rows pending waiting first w u = rw (no_subcommand waiting w, u.3, u.1, u.2) refl

pub turn_fault-short : (rows : List Row) (pending : Option (Text × List Text)) (waiting : Waiting) (first : Bool) (w : Text) → IsShort w
    → turn_fault shape [] (going rows pending waiting first) w ≡ kind.UnknownArgument ∷ []
unfolding flags_fault
turn_fault-short rows pending waiting first w u = rw (no_subcommand waiting w, u.5, u.4, u.3, u.6, no_rule_by_short u.2) refl
