-- What the command `order` answers.
use Rattle.std.specs.Prelude.{◌≡◌, ◌≢◌, ◌⊎◌, ℕ, List, Some}
use Rattle.lock_order.specs.declared.answer.OrderAnswer.{OrderAnswer}
use Rattle.lock_order.specs.declared.answer.OrderAnswer.TheVariants as order
use Rattle.lock_order.specs.Answers.{IsJustAnswer}
use Rattle.command_endings.specs.declared.status.Status.{Status}
use Rattle.command_endings.specs.declared.status.Status.TheVariants.{Done, ReadFault, SinkFault, Illegal, BadText, TooLong}
use Rattle.command_endings.specs.Changes.{Change, IsStill, Notes}
use Rattle.command_endings.specs.Messages.{input_fault_message, bad_line_message, too_long_message}
use Rattle.command_endings.specs.Printing.{Prints}
use Rattle.command_check.specs.Lines.{illegal_line}
use Rattle.command_check.specs.VerdictEndings.{budget}
use Rattle.command_check.specs.OrderLines.{no_cycle_line, cycle_text}

-- the answer on the input is just
abbrev pub Finds : Change → OrderAnswer → Type 0
Finds input a = IsJustAnswer budget input.old input.new input.before input.now a

-- how the command ends by an answer: its text was printed, or the input can't be read
abbrev pub EndsBy : OrderAnswer → Change → Change → Status → Type 0
EndsBy (order.NoCycle events) out notes status = Prints (no_cycle_line events) Done out notes status
EndsBy (order.Found cycle) out notes status = Prints (cycle_text cycle) Done out notes status
EndsBy (order.Illegal place why) out notes status = Prints (illegal_line place why) Illegal out notes status
EndsBy (order.BadLine k) out notes status = (status ≡ BadText) × IsStill out × Notes notes (bad_line_message k)
EndsBy order.TooLong out notes status = (status ≡ TooLong) × IsStill out × Notes notes too_long_message
EndsBy order.ReadFault out notes status = (status ≡ ReadFault) × IsStill out × Notes notes input_fault_message

-- the answer is just, and the command ended by it
abbrev pub OrderAnswers : Change → Change → Change → Status → Type 0
OrderAnswers input out notes status = (a : OrderAnswer) × Finds input a × EndsBy a out notes status

-- the status of an answer
abbrev pub status_of : OrderAnswer → Status
status_of (order.NoCycle events) = Done
status_of (order.Found cycle) = Done
status_of (order.Illegal place why) = Illegal
status_of (order.BadLine k) = BadText
status_of order.TooLong = TooLong
status_of order.ReadFault = ReadFault

-- where the input shows its bytes and no read failed, the status is that of each answer that is just, unless the sink failed
abbrev pub Ordered : Change → Status → Type 0
Ordered input status =
    (bytes : List ℕ) (a : OrderAnswer) → input.old ≡ Some bytes → status ≢ ReadFault → a ≢ order.ReadFault → Finds input a
    → (status ≡ status_of a) ⊎ (status ≡ SinkFault)
