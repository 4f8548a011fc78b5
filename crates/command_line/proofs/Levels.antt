-- When `clap` takes the words, and what its matches are then.
use Rattle.std.proofs.Common.{◌≡◌, ◌∙◌, ◌||◌, Bool, true, false, not, cond, List, [], ◌∷◌, Option, Some, None, ap, sym, refl, is_some}
use Rattle.std.specs.Prelude.{codes}
use Rattle.std.specs.List.{AllByRecursion, fold}
use Rattle.clap.specs.Kinds.{Kinds, or_else}
use Rattle.clap.specs.Walk.{Row, Rule, finished, has_row, nothing_held, Walk, with_default}
use Rattle.clap.specs.Simple.{built, entered, matches_of}
use Rattle.clap.specs.Takes.{is_given}
use Rattle.clap.specs.Faults.{check_fault, default_fault, defaults_fault, entered_fault, fault_of, given_default_fault, level_fault, settle_fault, walk_fault}
use Rattle.clap.specs.declared.error.kind.ErrorKind.TheVariants as kind
use Rattle.command_line.specs.Grammar.{Text}
use Rattle.command_line.specs.Reading.{index_app}
use Rattle.command_line.proofs.Shape.{rules, rules-is, shape}
use Rattle.command_line.proofs.Turns.{standing}
use Rattle.command_line.proofs.Parts.{Passes, end_of, neither, rows_at_end}

-- ---- no argument has a default

abbrev HasNoDefault : Rule → Type 0
HasNoDefault a = a.defaults ≡ []

no_default_fault : (a : Rule) (rows : List Row) → HasNoDefault a → default_fault rows a ≡ []
no_default_fault a rows e = rw e (go (has_row a.id rows))
  where
    go : (b : Bool) → cond (b || true) [] (given_default_fault a []) ≡ []
    go true = refl
    go false = refl

no_default_row : (a : Rule) (rows : List Row) → HasNoDefault a → with_default rows a ≡ rows
no_default_row a rows e = rw e (go (has_row a.id rows))
  where
    go : (b : Bool) → cond b rows rows ≡ rows
    go true = refl
    go false = refl

no_defaults : (all : List Rule) (rows : List Row) → AllByRecursion HasNoDefault all → (defaults_fault rows all ≡ []) × (fold with_default rows all ≡ rows)
unfolding defaults_fault
no_defaults [] rows each = (refl, refl)
no_defaults (a ∷ more) rows each =
    let later = no_defaults more rows each.1 in
    let same = no_default_row a rows each.0 in
    (rw (no_default_fault a rows each.0, same) later.0, ap (λ (rs : List Row). fold with_default rs more) same ∙ later.1)

plain_rules : AllByRecursion HasNoDefault rules
plain_rules = rw rules-is (refl, (refl, (refl, (refl, (refl, tt)))))

-- ---- a directory is required

abbrev directory_fault : Bool → Kinds
directory_fault given = cond (not given || false) (kind.MissingRequiredArgument ∷ []) []

wants_directory : (rows : List Row) → check_fault shape rows false ≡ directory_fault (is_given (codes "dir") rows)
wants_directory rows = rw rules-is refl

-- ---- one level alone

abbrev pub start : Walk
start = standing [] None true

whole : (words : List Text) → fault_of index_app words
    ≡ or_else (walk_fault shape [] start words) (or_else (settle_fault rules false (end_of start words).held)
    (or_else (defaults_fault (rows_at_end start words) rules) (check_fault shape (finished rules (end_of start words).held) false)))
unfolding rules
whole words = go (end_of start words).stopped
  where
    go : (stop : Option (Text × List Text)) → level_fault (built index_app).top [] nothing_held words (is_some (entered (built index_app) stop)) (entered_fault (built index_app) stop)
        ≡ or_else (walk_fault shape [] start words) (or_else (settle_fault rules false (end_of start words).held)
        (or_else (defaults_fault (rows_at_end start words) rules) (check_fault shape (finished rules (end_of start words).held) false)))
    go None = refl
    go (Some p) = refl

finished_is : (words : List Text) → finished rules (end_of start words).held ≡ rows_at_end start words
finished_is words = (no_defaults rules (rows_at_end start words) plain_rules).1

-- where `clap` takes the words, the walk passes
pub passes-fault_of : (words : List Text) → fault_of index_app words ≡ [] → Passes start words
passes-fault_of words e =
    let first = neither _ _ (sym (whole words) ∙ e) in
    (first.0, (neither _ _ first.1).0)

-- where the walk passes and meets a directory, `clap` takes the words
pub fault_of-passes : (words : List Text) → Passes start words → is_given (codes "dir") (rows_at_end start words) ≡ true → fault_of index_app words ≡ []
fault_of-passes words h given =
    let none = (no_defaults rules (rows_at_end start words) plain_rules).0 in
    let wants : check_fault shape (finished rules (end_of start words).held) false ≡ [] =
    ap (λ (rows : List Row). check_fault shape rows false) (finished_is words) ∙ wants_directory (rows_at_end start words) ∙ ap directory_fault given in
    whole words ∙ rw (h.0, h.1, none, wants) refl

matches-finished : (words : List Text) → matches_of index_app words ≡ finished rules (end_of start words).held
unfolding rules
matches-finished words = refl

pub matches-is : (words : List Text) → matches_of index_app words ≡ rows_at_end start words
matches-is words = matches-finished words ∙ finished_is words
