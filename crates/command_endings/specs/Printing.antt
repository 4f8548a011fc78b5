-- The whole answer of a command, on its way to standard output.
use Rattle.std.specs.Prelude.{◌≡◌, ◌⊎◌, ℕ, List}
use Rattle.command_endings.specs.declared.status.Status.{Status}
use Rattle.command_endings.specs.declared.status.Status.TheVariants.{SinkFault}
use Rattle.command_endings.specs.Changes.{Change, IsStill, Gets, GetsPrefix, Notes}
use Rattle.command_endings.specs.Messages.{output_fault_message}

-- the sink took the text and the status is this one, or the sink failed
abbrev pub Prints : List ℕ → Status → Change → Change → Status → Type 0
Prints text status out notes answer =
    ((answer ≡ status) × Gets out text × IsStill notes)
    ⊎ ((answer ≡ SinkFault) × GetsPrefix out text × Notes notes output_fault_message)
