-- The results of the command `rounds`.
use Rattle.std.specs.Prelude.{◌≡◌, ◌⊎◌, ℕ, ◌*◌, ◌<◌, ◌≤◌, List, [], ◌∷◌, Some}
use Rattle.larch_actions.specs.declared.event.Event.{Event}
use Rattle.larch_actions.specs.Actions.{by_thread}
use Rattle.larch_actions.specs.Layout.{layout_of}
use Rattle.trace_core.specs.Whole.{numbered}
use Rattle.command_check.specs.Traces.{IsClosedTrace}
use Rattle.barrier_once.specs.declared.cell.Cell.{Cell}
use Rattle.barrier_once.specs.declared.cell.Cell.TheVariants.{Bar, Sum, Once}
use Rattle.barrier_once.specs.Rounds.{triangle}
use Rattle.command_rounds.specs.RoundEvents.{AllHaveCome, AreEventsOf, IsOfFirst}
use Rattle.command_endings.specs.declared.status.Status.{Status}
use Rattle.command_endings.specs.declared.status.Status.TheVariants.{Done, Memory}
use Rattle.command_endings.specs.Changes.{Change, IsStill, Notes}
use Rattle.command_endings.specs.Messages.{memory_message}
use Rattle.command_endings.specs.Printing.{Prints}

-- the cells are a bar at which nobody has arrived, a sum and a once cell with a value
abbrev pub AreThree : ℕ → ℕ → ℕ → List Cell → Type 0
AreThree round sum value cells = cells ≡ Bar round 0 ∷ Sum sum ∷ Once (Some value) ∷ []

-- the trace of a run of rounds: a legal and closed list of events, of which each thread's are those
-- of its rounds, and no thread leaves the bar before all have come as often; followed by the bar's
-- round, the sum of all that was added and the value on which all have agreed, which is the number
-- and 1 of the thread that took the once cell first
pub record IsRoundsTrace (threads rounds : ℕ) (bytes : List ℕ) : Type 0 where
  pub events : List Event
  pub value : ℕ
  pub within : (1 ≤ value) × (value ≤ threads)
  pub trace : IsClosedTrace (layout_of threads 3 1 0) (numbered 0 (2 * rounds ∷ rounds * triangle threads ∷ value ∷ [])) events bytes
  pub own : (t : ℕ) → t < threads → AreEventsOf t rounds (by_thread t events)
  pub apart : AllHaveCome threads events
  pub first : IsOfFirst value events

-- the trace was printed, or memory ran out
abbrev pub RoundsAnswers : ℕ → ℕ → Change → Change → Status → Type 0
RoundsAnswers threads rounds out notes answer =
    ((bytes : List ℕ) × IsRoundsTrace threads rounds bytes × Prints bytes Done out notes answer)
    ⊎ ((answer ≡ Memory) × IsStill out × Notes notes memory_message)
