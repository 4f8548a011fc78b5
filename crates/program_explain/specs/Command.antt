-- What the program answers.
use Rattle.std.specs.Prelude.{◌≡◌, ◌≢◌}
use Rattle.firefly_outside.specs.Causes.{Rose}
use Rattle.trace_check.specs.declared.checker.Verdict.{Verdict}
use Rattle.trace_check.specs.declared.checker.Verdict.TheVariants as verdict
use Rattle.trace_explain.specs.Explained.{GotText, GotPrefix}
use Rattle.command_endings.specs.declared.status.Status.{Status}
use Rattle.command_endings.specs.declared.status.Status.TheVariants.{SinkFault}
use Rattle.command_endings.specs.Changes.{Change, IsStill, Notes}
use Rattle.command_endings.specs.Messages.{input_fault_message, output_fault_message, too_long_message}
use Rattle.command_check.specs.VerdictEndings.{budget, Finds, status_of}

-- what the notes get for a verdict: nothing where the explanation says it
abbrev pub NotesFor : Change → Verdict → Type 0
NotesFor notes (verdict.Legal s) = IsStill notes
NotesFor notes (verdict.Illegal place why) = IsStill notes
NotesFor notes (verdict.BadLine k) = IsStill notes
NotesFor notes verdict.TooLong = Notes notes too_long_message
NotesFor notes verdict.ReadFault = Notes notes input_fault_message

-- the verdict is just, the output got its explanation, and the status and the notes are the verdict's
abbrev pub Explains : Change → Change → Change → Status → Type 0
Explains input out notes status =
    (found : Verdict) × Finds input found × GotText budget input.old out.old out.new found × NotesFor notes found
    × (status ≡ status_of found) × (found ≢ verdict.ReadFault → input.now ≡ input.before)

-- the output failed, and got a prefix of the explanation of a verdict that is just
abbrev pub Fails : Change → Change → Change → Status → Type 0
Fails input out notes status =
    (status ≡ SinkFault) × Rose out.before out.now × GotPrefix budget input.old input.new input.before input.now out.old out.new
    × Notes notes output_fault_message
