-- How a command ends that wrote no whole answer: its status and its message.
use Rattle.std.specs.Prelude.{◌≡◌, ◌≢◌, ℕ, List}
use Rattle.command_endings.specs.declared.ending.Ending.{Ending}
use Rattle.command_endings.specs.declared.ending.Ending.TheVariants as ending
use Rattle.command_endings.specs.declared.status.Status.{Status}
use Rattle.command_endings.specs.declared.status.Status.TheVariants.{Usage, ReadFault, SinkFault, Stopped, Memory, BadText, TooMany, TooLong}
use Rattle.exact_text.specs.declared.fault.TextFault.{TextFault}
use Rattle.exact_text.specs.declared.fault.TextFault.TheVariants as fault
use Rattle.command_endings.specs.Changes.{Change, Notes}
use Rattle.command_endings.specs.Messages.{usage_message, input_fault_message, output_fault_message, bad_line_message, stopped_message, stopped_by_message, memory_message, too_many_message, unreadable_message, too_long_message}

abbrev pub status_of : Ending → Status
status_of ending.Usage = Usage
status_of ending.InputFault = ReadFault
status_of (ending.Unreadable path) = ReadFault
status_of ending.OutputFault = SinkFault
status_of (ending.Stopped found allowed) = Stopped
status_of (ending.StoppedBy job) = Stopped
status_of ending.Memory = Memory
status_of (ending.BadLine line) = BadText
status_of ending.TooMany = TooMany
status_of ending.TooLong = TooLong

abbrev pub message_of : Ending → List ℕ
message_of ending.Usage = usage_message
message_of ending.InputFault = input_fault_message
message_of (ending.Unreadable path) = unreadable_message path.now
message_of ending.OutputFault = output_fault_message
message_of (ending.Stopped found allowed) = stopped_message found allowed
message_of (ending.StoppedBy job) = stopped_by_message job
message_of ending.Memory = memory_message
message_of (ending.BadLine line) = bad_line_message line
message_of ending.TooMany = too_many_message
message_of ending.TooLong = too_long_message

-- the ending of a text that can't be read
abbrev pub ending_of : TextFault → Ending
ending_of fault.Memory = ending.Memory
ending_of (fault.BadLine line) = ending.BadLine line
ending_of fault.TooLong = ending.TooLong
ending_of fault.Read = ending.InputFault

-- the status and the message of a text that can't be read
abbrev pub SaysFault : TextFault → Change → Status → Type 0
SaysFault fault notes status = (status ≡ status_of (ending_of fault)) × Notes notes (message_of (ending_of fault))

-- A failed read is reported: the input's count of faults rises only where the status says so.
abbrev pub ReportsFault : Change → Status → Type 0
ReportsFault input status = status ≢ ReadFault → input.now ≡ input.before
