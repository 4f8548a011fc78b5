-- The lines before those of the threads, and what is known of a line that may come next.
use Rattle.std.specs.Prelude.{ℕ, ◌<◌, List, [], ◌∷◌, ◌++◌, length, Ok}
use Rattle.exact_text.specs.Codes.{IsCode}
use Rattle.exact_text.specs.Prefixes.{IsLine}
use Rattle.exact_text.specs.Reading.{Reader, after_word, as_value, either}
use Rattle.larch_actions.specs.declared.event.Layout.{Layout}
use Rattle.larch_actions.specs.declared.event.Version.TheVariants.{One}
use Rattle.larch_actions.specs.Layout.{layout_text}
use Rattle.trace_core.specs.Lines.{counts_at}
use Rattle.script_text.specs.declared.heads.Start.{Start}
use Rattle.script_text.specs.declared.heads.Start.TheVariants as start
use Rattle.script_text.specs.Layouts.{IsLayoutIn}
use Rattle.script_text.specs.Text.{second_version}

-- It is read exactly, and is a line of some length; and there is one.
pub record IsReadable {X : Type 0} (lawful : X → Type 0) (text : X → List ℕ) (read : Reader X) : Type 0 where
  pub exact : IsCode lawful text read
  pub lines : (x : X) → lawful x → IsLine (text x) × (length (text x) < 65536)
  pub some : (x : X) × lawful x

-- a layout line, with its newline
abbrev pub whole_layout : Layout → List ℕ
whole_layout l = layout_text l ++ 10 ∷ []

-- a first line says the layout of version one, or version two
abbrev pub IsStart : Start → Type 0
IsStart (start.Layout l) = IsLayoutIn One l
IsStart start.Second = Unit {0}

abbrev pub start_text : Start → List ℕ
start_text (start.Layout l) = whole_layout l
start_text start.Second = second_version ++ 10 ∷ []

abbrev pub start_at : Reader Start
start_at =
    either (after_word (second_version ++ 10 ∷ []) (λ rest. Ok (start.Second, rest))) (as_value start.Layout (counts_at One))
