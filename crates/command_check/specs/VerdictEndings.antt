-- How a command ends by what the check of its trace found.
use Rattle.std.specs.Prelude.{◌≡◌, ◌≢◌, ◌⊎◌, ℕ, List, Some}
use Rattle.trace_check.specs.declared.checker.Verdict.{Verdict}
use Rattle.trace_check.specs.declared.checker.Verdict.TheVariants as verdict
use Rattle.trace_check.specs.Verdicts.{IsJust}
use Rattle.command_endings.specs.declared.status.Status.{Status}
use Rattle.command_endings.specs.declared.status.Status.TheVariants.{Done, ReadFault, SinkFault, Illegal, BadText, TooLong}
use Rattle.command_endings.specs.Changes.{Change, IsStill, Notes}
use Rattle.command_endings.specs.Messages.{input_fault_message, bad_line_message, too_long_message}

-- how many bytes of an input are checked
abbrev pub budget : ℕ
budget = 1099511627776

-- the verdict on the input is just
abbrev pub Finds : Change → Verdict → Type 0
Finds input v = IsJust budget input.old input.new input.before input.now v

-- the status of a verdict
abbrev pub status_of : Verdict → Status
status_of (verdict.Legal s) = Done
status_of (verdict.Illegal place why) = Illegal
status_of (verdict.BadLine k) = BadText
status_of verdict.TooLong = TooLong
status_of verdict.ReadFault = ReadFault

-- what the notes get for a verdict: nothing where the trace was read
abbrev pub NotesFor : Change → Verdict → Type 0
NotesFor notes (verdict.Legal s) = IsStill notes
NotesFor notes (verdict.Illegal place why) = IsStill notes
NotesFor notes (verdict.BadLine k) = Notes notes (bad_line_message k)
NotesFor notes verdict.TooLong = Notes notes too_long_message
NotesFor notes verdict.ReadFault = Notes notes input_fault_message

-- where the input shows its bytes and no read failed, the status is that of each verdict that is just, unless the sink failed
abbrev pub Found : Change → Status → Type 0
Found input status =
    (bytes : List ℕ) (v : Verdict) → input.old ≡ Some bytes → status ≢ ReadFault → v ≢ verdict.ReadFault → Finds input v
    → (status ≡ status_of v) ⊎ (status ≡ SinkFault)
