-- What the program answers.
use Rattle.std.specs.Prelude.{◌≡◌, ◌≢◌}
use Rattle.trace_check.specs.declared.checker.Verdict.{Verdict}
use Rattle.trace_shapes.specs.declared.view.DrawnRange.{DrawnRange}
use Rattle.trace_picture.specs.Drawn.{IsDrawn, IsCutOff}
use Rattle.trace_json.specs.Written.{IsWritten, IsCutShort}
use Rattle.firefly_outside.specs.Causes.{Rose}
use Rattle.command_endings.specs.declared.status.Status.{Status}
use Rattle.command_endings.specs.declared.status.Status.TheVariants.{SinkFault, ReadFault}
use Rattle.command_endings.specs.Changes.{Change, Notes}
use Rattle.command_endings.specs.Messages.{output_fault_message}
use Rattle.command_check.specs.VerdictEndings.{budget, Finds, NotesFor, status_of}

-- the verdict is just, the picture is drawn, and the status and the notes are the verdict's
abbrev pub Shows : DrawnRange → Change → Change → Change → Status → Type 0
Shows v input out notes status =
    (found : Verdict) × Finds input found × IsDrawn budget v input.old out.old out.new found × NotesFor notes found
    × (status ≡ status_of found)

-- the output failed, and got a prefix of a picture
abbrev pub Fails : DrawnRange → Change → Change → Change → Status → Type 0
Fails v input out notes status =
    (status ≡ SinkFault) × Rose out.before out.now × IsCutOff budget v input.old out.old out.new × Notes notes output_fault_message

-- the verdict is just, the events are written, and the status and the notes are the verdict's
abbrev pub Writes : Change → Change → Change → Status → Type 0
Writes input out notes status =
    (found : Verdict) × Finds input found × IsWritten budget input.old out.old out.new found × NotesFor notes found
    × (status ≡ status_of found)

-- the output failed, and got a prefix of the text of events
abbrev pub WriteFails : Change → Change → Change → Status → Type 0
WriteFails input out notes status =
    (status ≡ SinkFault) × Rose out.before out.now × IsCutShort budget input.old out.old out.new × Notes notes output_fault_message

-- A failed read is reported, unless the output failed too. One can fail only where no verdict is due yet, so from the byte that decides on
-- nothing is read.
abbrev pub ReportsFault : Change → Status → Type 0
ReportsFault input status = status ≢ ReadFault → status ≢ SinkFault → input.now ≡ input.before
