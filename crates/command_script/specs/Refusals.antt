-- Inputs that are scripts, and why others aren't read.
use Rattle.std.specs.Prelude.{◌+◌, ◌≤◌, List, length, IfSome}
use Rattle.std.specs.Io.KnownBytes.{IsAtEnd}
use Rattle.exact_text.specs.declared.fault.TextFault.{TextFault}
use Rattle.exact_text.specs.Exact.{HasReason, OrMemory, lines_room}
use Rattle.larch_actions.specs.declared.event.Layout.{Layout}
use Rattle.script_text.specs.declared.line.Line.{Line}
use Rattle.script_text.specs.Layouts.{head_lines}
use Rattle.script_text.specs.Text.{IsScript, IsScriptText, ReadsAs}
use Rattle.script_text.specs.Texts.{most_lines}
use Rattle.command_endings.specs.Changes.{Change}

-- the whole input is the script of this layout and these lines
pub record IsRead (input : Change) (l : Layout) (xs : List Line) : Type 0 where
  pub rules : IsScript l xs
  pub few : head_lines l.version + length xs ≤ most_lines
  pub whole : IfSome input.old (λ given. ReadsAs given l xs)
  pub end : IsAtEnd input.new

-- why the script isn't read
abbrev pub Refuses : Change → TextFault → Type 0
Refuses input f = OrMemory (HasReason IsScriptText (lines_room most_lines) 0 input.old input.new input.before input.now) f
