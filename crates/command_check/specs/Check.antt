-- What the command `check` answers.
use Rattle.std.specs.Prelude.{◌≡◌, ◌⊎◌, ℕ, List}
use Rattle.larch_actions.specs.declared.event.Broken.{Broken}
use Rattle.trace_check.specs.declared.checker.Summary.{Summary}
use Rattle.trace_check.specs.declared.checker.Verdict.{Verdict}
use Rattle.trace_check.specs.declared.checker.Verdict.TheVariants as verdict
use Rattle.command_endings.specs.declared.status.Status.{Status}
use Rattle.command_endings.specs.declared.status.Status.TheVariants.{Done, Usage, ReadFault, SinkFault, Stopped, Memory, Illegal, BadText, TooMany, TooLong}
use Rattle.command_endings.specs.Changes.{Change, IsStill, Gets, GetsPrefix, Notes}
use Rattle.command_endings.specs.Messages.{input_fault_message, output_fault_message, bad_line_message, too_long_message}
use Rattle.command_check.specs.Lines.{legal_line, illegal_line}
use Rattle.command_check.specs.VerdictEndings.{Finds}

-- the line is that of a verdict that is just
abbrev pub IsVerdict : Change → List ℕ → Type 0
IsVerdict input line =
    ((s : Summary) × Finds input (verdict.Legal s) × (line ≡ legal_line s))
    ⊎ ((place : ℕ) × (why : Broken) × Finds input (verdict.Illegal place why) × (line ≡ illegal_line place why))

-- each status by its cause
abbrev pub CheckAnswers : Change → Change → Change → Status → Type 0
CheckAnswers input out notes Done = (s : Summary) × Finds input (verdict.Legal s) × Gets out (legal_line s) × IsStill notes
CheckAnswers input out notes Illegal =
    (place : ℕ) × (why : Broken) × Finds input (verdict.Illegal place why) × Gets out (illegal_line place why) × IsStill notes
CheckAnswers input out notes BadText = (k : ℕ) × Finds input (verdict.BadLine k) × IsStill out × Notes notes (bad_line_message k)
CheckAnswers input out notes TooLong = Finds input verdict.TooLong × IsStill out × Notes notes too_long_message
CheckAnswers input out notes ReadFault = Finds input verdict.ReadFault × IsStill out × Notes notes input_fault_message
CheckAnswers input out notes SinkFault = (line : List ℕ) × IsVerdict input line × GetsPrefix out line × Notes notes output_fault_message
CheckAnswers input out notes Usage = ⊥
CheckAnswers input out notes Stopped = ⊥
CheckAnswers input out notes Memory = ⊥
CheckAnswers input out notes TooMany = ⊥
