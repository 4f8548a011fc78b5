-- The results of the command `run`.
use Rattle.std.specs.Prelude.{◌≡◌, ◌⊎◌, ℕ, zero, suc, ◌+◌, ◌<◌, List, [], ◌∷◌}
use Rattle.larch_actions.specs.declared.event.Layout.{Layout}
use Rattle.larch_actions.specs.declared.event.Event.{Event}
use Rattle.larch_actions.specs.Actions.{by_thread}
use Rattle.trace_core.specs.Text.{MutexValue}
use Rattle.script_text.specs.declared.line.Line.{Line}
use Rattle.exact_text.specs.declared.fault.TextFault.TheVariants as fault
use Rattle.script_text.specs.Runs.{AreEventsOf, total}
use Rattle.script_text.specs.Visited.{AreVisited}
use Rattle.command_endings.specs.declared.status.Status.{Status}
use Rattle.command_endings.specs.declared.status.Status.TheVariants.{Done, Usage, ReadFault, SinkFault, Stopped, Memory, Illegal, BadText, TooMany, TooLong}
use Rattle.command_endings.specs.Changes.{Change, IsStill, Gets, GetsPrefix, Notes}
use Rattle.command_endings.specs.Printing.{Prints}
use Rattle.command_script.specs.Refusals.{IsRead, Refuses}
use Rattle.command_script.specs.Decided as decided
use Rattle.command_check.specs.Traces.{IsClosedTrace}
use Rattle.command_endings.specs.Messages.{input_fault_message, output_fault_message, bad_line_message, memory_message, too_long_message}

-- n mutexes from k on, each with the sum of all that the lines add under it
abbrev pub totals_from : ℕ → ℕ → List Line → List MutexValue
totals_from k zero xs = []
totals_from k (suc n) xs = record { mutex = k; value = total xs k } ∷ totals_from (k + 1) n xs

-- the trace of a run of these lines: a legal and closed list of events, of which each thread's are
-- those of its lines, in order, and in version two its End; each mutex has its sum. The numbers that
-- the threads got and left with mutexes say how often an `until` waited: while its number was too
-- small
pub record IsTraceOf (l : Layout) (xs : List Line) (bytes : List ℕ) : Type 0 where
  pub events : List Event
  pub trace : IsClosedTrace l (totals_from 0 l.mutexes xs) events bytes
  pub own : (t : ℕ) → t < l.threads → AreEventsOf l.version xs t (by_thread t events)
  pub visited : AreVisited l xs events

-- the whole input is a script, and the bytes are the trace of a run of it
pub record IsRunOf (input : Change) (bytes : List ℕ) : Type 0 where
  pub layout : Layout
  pub lines : List Line
  pub read : IsRead input layout lines
  pub trace : IsTraceOf layout lines bytes

-- the run of a script ended and its trace was printed, or memory ran out
abbrev pub Runs : Layout → List Line → Change → Change → Status → Type 0
Runs l xs out notes answer =
    ((bytes : List ℕ) × IsTraceOf l xs bytes × Prints bytes Done out notes answer)
    ⊎ ((answer ≡ Memory) × IsStill out × Notes notes memory_message)

-- the cause of each status
abbrev pub RunAnswers : Change → Change → Change → Status → Type 0
RunAnswers input out notes Done = (bytes : List ℕ) × IsRunOf input bytes × Gets out bytes × IsStill notes
RunAnswers input out notes SinkFault = (bytes : List ℕ) × IsRunOf input bytes × GetsPrefix out bytes × Notes notes output_fault_message
RunAnswers input out notes BadText = (k : ℕ) × Refuses input (fault.BadLine k) × IsStill out × Notes notes (bad_line_message k)
RunAnswers input out notes TooLong = Refuses input fault.TooLong × IsStill out × Notes notes too_long_message
RunAnswers input out notes ReadFault = Refuses input fault.Read × IsStill out × Notes notes input_fault_message
RunAnswers input out notes Memory = IsStill out × Notes notes memory_message
RunAnswers input out notes Usage = ⊥
RunAnswers input out notes Stopped = ⊥
RunAnswers input out notes Illegal = ⊥
RunAnswers input out notes TooMany = ⊥

-- the statuses of a script
abbrev pub IsOwn : Status → Type 0
IsOwn status = (status ≡ Done) ⊎ (status ≡ SinkFault)

-- if the bytes of the input are known they decide, unless a read failed or memory ran out: a script is run, and a bad line or an input
-- that is too long is reported
abbrev pub Decides : Change → Status → Type 0
Decides input status = decided.Decides (λ s. s) IsOwn input status
