-- Script texts.
use Rattle.std.specs.Prelude.{◌≡◌, ℕ, List, [], ◌∷◌, ◌++◌, codes, decimal}
use Rattle.larch_actions.specs.declared.event.Layout.{Layout}
use Rattle.larch_actions.specs.declared.event.Version.{Version}
use Rattle.larch_actions.specs.declared.event.Version.TheVariants.{One, Two}
use Rattle.larch_actions.specs.Layout.{IsLawful, layout_text}
use Rattle.script_text.specs.declared.line.Operation.{Operation}
use Rattle.script_text.specs.declared.line.Line.{Line}
use Rattle.script_text.specs.Operations.{MayFollow, none_held, none_forked, held_after, AllFree}
use Rattle.script_text.specs.Table.{word_text, kinds_of, word_of, numbers_of, operands_text}

-- the word, and what stands after it
abbrev pub operation_text : Operation → List ℕ
operation_text o = word_text (word_of o) ++ operands_text (kinds_of (word_of o)) (numbers_of o)

-- a line, without its newline
abbrev pub line_text : Line → List ℕ
line_text x = codes "t" ++ (decimal x.thread.0 ++ (codes " " ++ operation_text x.operation))

abbrev pub lines_text : List Line → List ℕ
lines_text [] = []
lines_text (x ∷ xs) = line_text x ++ 10 ∷ lines_text xs

-- the line that says version two, and the line before the layout line, where there is one
abbrev pub second_version : List ℕ
second_version = codes "firefly-script 2"

abbrev pub first_line : Version → List ℕ
first_line One = []
first_line Two = second_version ++ 10 ∷ []

-- the one text of the layout and the lines
abbrev pub script_text : Layout → List Line → List ℕ
script_text l xs = first_line l.version ++ (layout_text l ++ 10 ∷ lines_text xs)

-- the lines may come one after another, and at their end no thread holds a mutex
pub record IsScript (l : Layout) (xs : List Line) : Type 0 where
  pub lawful : IsLawful l
  pub follow : MayFollow l none_held none_forked xs
  pub free : AllFree (held_after none_held xs)

-- the bytes are the text of the layout and the lines
pub record ReadsAs (bytes : List ℕ) (l : Layout) (xs : List Line) : Type 0 where
  pub script : IsScript l xs
  pub text : bytes ≡ script_text l xs

abbrev pub IsScriptText : List ℕ → Type 0
IsScriptText bytes = (l : Layout) × (xs : List Line) × ReadsAs bytes l xs
