-- The results of the command `index`.
use Rattle.std.specs.Prelude.{List, Option}
use Rattle.word_index.specs.Index.{Index}
use Rattle.index_print.specs.Text.{index_text}
use Rattle.command_line.specs.Grammar.{Options}
use Rattle.command_endings.specs.declared.status.Status.{Status}
use Rattle.command_endings.specs.declared.status.Status.TheVariants.{Done, Usage, ReadFault, SinkFault, Stopped, Memory, Illegal, BadText, TooMany, TooLong}
use Rattle.command_endings.specs.Changes.{Change, IsStill, Gets, GetsPrefix, Notes}
use Rattle.firefly.specs.IndexRun.{AreAskedOnce, IsTheIndex, NoIndex, NoneRose}
use Rattle.firefly.specs.Looks.{Look}
use Rattle.command_endings.specs.Messages.{output_fault_message}

-- the cause of each status
abbrev pub IndexAnswers : Options → List (Option Look) → List (Option Look) → Change → Change → Status → Type 0
IndexAnswers o old new out notes Done =
    (piece : Index) × IsTheIndex o old piece × NoneRose old new × AreAskedOnce o old new × Gets out (index_text piece) × IsStill notes
IndexAnswers o old new out notes SinkFault =
    (piece : Index) × IsTheIndex o old piece × NoneRose old new × AreAskedOnce o old new × GetsPrefix out (index_text piece)
    × Notes notes output_fault_message
IndexAnswers o old new out notes Stopped = NoIndex o old new notes Stopped × IsStill out
IndexAnswers o old new out notes TooMany = NoIndex o old new notes TooMany × IsStill out
IndexAnswers o old new out notes ReadFault = NoIndex o old new notes ReadFault × IsStill out
IndexAnswers o old new out notes Memory = NoIndex o old new notes Memory × IsStill out
IndexAnswers o old new out notes Usage = ⊥
IndexAnswers o old new out notes Illegal = ⊥
IndexAnswers o old new out notes BadText = ⊥
IndexAnswers o old new out notes TooLong = ⊥
