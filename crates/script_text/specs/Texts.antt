-- Texts of scripts from a line on.
use Rattle.std.specs.Prelude.{◌≡◌, ℕ, ◌+◌, ◌≤◌, List, ◌++◌, length}
use Rattle.exact_text.specs.Exact.{lines_room, OneAnswer}
use Rattle.larch_actions.specs.declared.event.Layout.{Layout}
use Rattle.script_text.specs.Heads.{whole_layout}
use Rattle.script_text.specs.Layouts.{head_lines}
use Rattle.script_text.specs.declared.line.Line.{Line}
use Rattle.script_text.specs.Operations.{Holding, Forked, held_after, MayFollow, AllFree}
use Rattle.script_text.specs.Text.{lines_text, first_line, IsScriptText, ReadsAs}

-- how many lines may be read
abbrev pub most_lines : ℕ
most_lines = 100000

-- all that stands before the lines of the threads
abbrev pub head_text : Layout → List ℕ
head_text l = first_line l.version ++ whole_layout l

-- the bytes are lines that may come one after another, up to the end of a script
abbrev pub IsRest : Layout → Holding → Forked → List ℕ → Type 0
IsRest l h f bytes = (xs : List Line) × MayFollow l h f xs × AllFree (held_after h xs) × (bytes ≡ lines_text xs)

-- the bytes are the text of a script of at most 100,000 lines
abbrev pub IsShortText : List ℕ → Type 0
IsShortText bytes = (l : Layout) × (xs : List Line) × ReadsAs bytes l xs × (head_lines l.version + length xs ≤ most_lines)

-- An input has one answer, and is the text of one script.
pub record IsDecided : Type 0 where
  pub one_answer : OneAnswer IsScriptText (lines_room most_lines)
  pub one_script : (input : List ℕ) (l k : Layout) (xs ys : List Line) → ReadsAs input l xs → ReadsAs input k ys → (l ≡ k) × (xs ≡ ys)
