-- One more line of a script, and its end.
use Rattle.std.specs.Prelude.{◌≡◌, ℕ, ◌+◌, ◌<◌, ◌≤◌, Bool, true, false, List, [], length, IfSome}
use Rattle.std.specs.Io.KnownBytes.{Consumes, IsAtEnd}
use Rattle.std.specs.declared.option.Option.{Option}
use Rattle.exact_text.specs.declared.intake.Intake.{Intake}
use Rattle.exact_text.specs.Intake.{rest_of, room_of}
use Rattle.script_text.specs.declared.draft.Draft.{Draft}
use Rattle.script_text.specs.declared.line.Line.{Line}
use Rattle.script_text.specs.Drafts.{Takes, held_in, forked_in}
use Rattle.script_text.specs.Layouts.{head_lines}
use Rattle.script_text.specs.NextLine.{whole_line}
use Rattle.script_text.specs.Operations.{none_held, none_forked, MayCome, MayFollow, AllFree}
use Rattle.script_text.specs.Text.{lines_text}
use Rattle.script_text.specs.Texts.{most_lines}

-- one more line was read and taken
pub record GoesOn (old new : Draft) (intake intake' : Intake) (left left' : Option (List ℕ)) : Type 0 where
  pub line : Line
  pub may : MayCome old.layout (held_in old) (forked_in old) line
  pub takes : Takes old new line
  pub bytes : Consumes (rest_of intake left) (rest_of intake' left') (whole_line line)
  pub few : intake.lines < most_lines
  pub counted : intake'.lines ≡ intake.lines + 1
  pub room : room_of intake ≤ room_of intake' + 65536

-- the end of the input, with no mutex held
pub record IsDone (old new : Draft) (rest left' : Option (List ℕ)) : Type 0 where
  pub same : new ≡ old
  pub nothing : IfSome rest (λ bytes. bytes ≡ [])
  pub at_end : IsAtEnd left'
  pub free : AllFree (held_in old)

abbrev pub OneRead : Draft → Draft → Intake → Intake → Option (List ℕ) → Option (List ℕ) → Bool → Type 0
OneRead old new intake intake' left left' true = GoesOn old new intake intake' left left'
OneRead old new intake intake' left left' false = IsDone old new (rest_of intake left) left'

-- all lines were read, up to the end of the input
pub record IsFinished (d : Draft) (rest left' : Option (List ℕ)) : Type 0 where
  pub follow : MayFollow d.layout none_held none_forked d.lines.items
  pub free : AllFree (held_in d)
  pub few : head_lines d.layout.version + length d.lines.items ≤ most_lines
  pub at_end : IsAtEnd left'
  pub text : IfSome rest (λ bytes. bytes ≡ lines_text d.lines.items)
