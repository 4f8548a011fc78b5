-- What `clap` is asked, and what its answer holds.
use Rattle.std.specs.Prelude.{◌≡◌, ◌≢◌, ℕ, true, List, [], ◌∷◌, Option, Some, None, codes}
use Rattle.clap.specs.Words.{App, Row, Rule, first_of, new_app, new_rule, with_rule}
use Rattle.clap.specs.Simple.{on_top}
use Rattle.clap.specs.declared.builder.action.ArgAction.TheVariants.{Set}
use Rattle.text_output.specs.Numbers.{IsNumber}
use Rattle.command_line.specs.Grammar.{Options, Text}

-- ---- the command: four options and DIR, each with one value

abbrev pub option_rule : Text → Rule
option_rule name = record (new_rule name) { long = Some name; action = Some Set }

abbrev pub directory_rule : Rule
directory_rule = record (new_rule (codes "dir")) { required = true; action = Some Set }

abbrev pub bare_app : App
bare_app = on_top (λ s. record s { no_binary_name = true; disable_help_flag = true })
    (new_app (codes "firefly"))

abbrev pub index_app : App
index_app = with_rule (with_rule (with_rule (with_rule (with_rule bare_app
    (option_rule (codes "walkers"))) (option_rule (codes "parsers")))
    (option_rule (codes "mergers"))) (option_rule (codes "stop-after"))) directory_rule

-- ---- the words that are handed to it: not empty, neither `-` (45) nor `--`

abbrev pub IsOffered : Text → Type 0
IsOffered word = (word ≢ []) × (word ≢ 45 ∷ []) × (word ≢ 45 ∷ 45 ∷ [])

-- ---- the values

-- n is the number of the text, or the default where there is no text
abbrev pub IsNumberOr : ℕ → Option Text → ℕ → Type 0
IsNumberOr default None n = n ≡ default
IsNumberOr default (Some text) n = IsNumber 1 8 text n

-- the number of the text, or none where there is no text
abbrev pub IsStop : Option Text → Option ℕ → Type 0
IsStop None stop = stop ≡ None
IsStop (Some text) None = ⊥
IsStop (Some text) (Some n) = IsNumber 0 1000000000 text n

-- the rows have the options' values
pub record HoldOptions (rows : List Row) (o : Options) : Type 0 where
  pub directory : first_of (codes "dir") rows ≡ Some o.directory
  pub walkers : IsNumberOr 2 (first_of (codes "walkers") rows) o.walkers
  pub parsers : IsNumberOr 4 (first_of (codes "parsers") rows) o.parsers
  pub mergers : IsNumberOr 2 (first_of (codes "mergers") rows) o.mergers
  pub stop_after : IsStop (first_of (codes "stop-after") rows) o.stop_after
