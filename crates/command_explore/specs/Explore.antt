-- What the program answers.
use Rattle.std.specs.Prelude.{◌≡◌, ◌⊎◌, ℕ, ◌+◌, List}
use Rattle.exact_text.specs.declared.fault.TextFault.TheVariants as fault
use Rattle.larch_actions.specs.declared.event.Layout.{Layout}
use Rattle.larch_actions.specs.declared.event.Event.{Event}
use Rattle.larch_actions.specs.Actions.{IsRun}
use Rattle.trace_core.specs.Text.{ReadsAs, trace_text}
use Rattle.trace_core.specs.Whole.{numbered}
use Rattle.script_text.specs.declared.line.Line.{Line}
use Rattle.script_plays.specs.Scenes.{Scene}
use Rattle.script_plays.specs.Plays.{IsPlayTo, IsStuck, Ends}
use Rattle.script_search.specs.declared.explorer.Stuck.{Stuck as Found}
use Rattle.script_search.specs.Explored.{AreNumbers}
use Rattle.script_search.specs.Tries.{Exceeds}
use Rattle.command_endings.specs.declared.status.Status.TheVariants.{Done, Usage, ReadFault, SinkFault, Stopped, Memory, BadText, TooLong}
use Rattle.command_endings.specs.Changes.{Change, IsStill, Gets, GetsPrefix, Notes}
use Rattle.command_endings.specs.Messages.{input_fault_message, output_fault_message, bad_line_message, memory_message, too_long_message}
use Rattle.command_script.specs.Refusals.{IsRead, Refuses}
use Rattle.command_script.specs.Decided as decided
use Rattle.command_explore.specs.declared.stuck.ExploreStatus.{ExploreStatus}
use Rattle.command_explore.specs.declared.stuck.ExploreStatus.TheVariants.{Stuck, As}
use Rattle.command_explore.specs.Words.{AsksFor}
use Rattle.command_explore.specs.Messages.{usage_message, ends_line, stopped_message}
use Rattle.command_explore.specs.Waits.{stuck_text}

-- the trace text of a play that gets stuck
abbrev pub trace_of : Layout → Found → List ℕ
trace_of l found = trace_text l found.events.items (numbered 0 found.numbers.items)

-- The trace is that of a play of these lines which gets stuck, with the numbers of the mutexes there: it reads as the play's events,
-- which are legal. The text says how long it is and what each thread waits for.
pub record GetsStuck (l : Layout) (xs : List Line) (trace text : List ℕ) : Type 0 where
  pub events : List Event
  pub scene : Scene
  pub numbers : List ℕ
  pub stuck : IsStuck l xs events
  pub play : IsPlayTo l xs events scene
  pub are_numbers : AreNumbers l xs scene.played l.mutexes numbers
  pub reads : ReadsAs trace l events (numbered 0 numbers)
  pub legal : IsRun l.version events scene.spec
  pub said : text ≡ stuck_text l xs events numbers scene

-- what is printed of a script that ends, or of one that gets stuck
abbrev pub IsPrinted : Layout → List Line → List ℕ → Type 0
IsPrinted l xs answer = (Ends l xs × (answer ≡ ends_line)) ⊎ ((text : List ℕ) × GetsStuck l xs answer text)

-- the results of a search of these lines, with so many states allowed
abbrev pub Explores : ℕ → Layout → List Line → Change → Change → ExploreStatus → Type 0
Explores limit l xs out notes (As Done) = Ends l xs × Gets out ends_line × IsStill notes
Explores limit l xs out notes Stuck =
    (trace : List ℕ) × (text : List ℕ) × GetsStuck l xs trace text × Gets out trace × Notes notes text
Explores limit l xs out notes (As SinkFault) =
    (answer : List ℕ) × IsPrinted l xs answer × GetsPrefix out answer × Notes notes output_fault_message
Explores limit l xs out notes (As Stopped) = Exceeds l xs limit × IsStill out × Notes notes (stopped_message (limit + 1) limit)
Explores limit l xs out notes (As Memory) = IsStill out × Notes notes memory_message
Explores limit l xs out notes (As status) = ⊥

-- the cause of each status
abbrev pub Answers : ℕ → Change → Change → Change → ExploreStatus → Type 0
Answers limit input out notes (As BadText) = (k : ℕ) × Refuses input (fault.BadLine k) × IsStill out × Notes notes (bad_line_message k)
Answers limit input out notes (As TooLong) = Refuses input fault.TooLong × IsStill out × Notes notes too_long_message
Answers limit input out notes (As ReadFault) = Refuses input fault.Read × IsStill out × Notes notes input_fault_message
Answers limit input out notes (As Memory) = IsStill out × Notes notes memory_message
Answers limit input out notes status =
    (l : Layout) × (xs : List Line) × IsRead input l xs × Explores limit l xs out notes status

-- words that ask for nothing: nothing is read or printed
abbrev pub SaysUsage : Change → Change → Change → ExploreStatus → Type 0
SaysUsage input out notes status = (status ≡ As Usage) × IsStill input × IsStill out × Notes notes usage_message

-- the results for the limit that the words say, or they say none
abbrev pub WordsAnswer : List (List ℕ) → Change → Change → Change → ExploreStatus → Type 0
WordsAnswer words input out notes status =
    ((n : ℕ) × AsksFor words n × Answers n input out notes status)
    ⊎ (((n : ℕ) → AsksFor words n → ⊥) × SaysUsage input out notes status)

-- the statuses of a script
abbrev pub Own : ExploreStatus → Type 0
Own status = (status ≡ As Done) ⊎ (status ≡ Stuck) ⊎ (status ≡ As Stopped) ⊎ (status ≡ As SinkFault)

-- if the bytes of the input are known they decide, unless a read failed or memory ran out
abbrev pub Decides : Change → ExploreStatus → Type 0
Decides input status = decided.Decides As Own input status

-- a failed read is reported: the input's count of faults rises only where the status says so
abbrev pub ReportsFault : Change → ExploreStatus → Type 0
ReportsFault input status = (status ≡ As ReadFault → ⊥) → input.now ≡ input.before
