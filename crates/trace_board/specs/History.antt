-- Since which event each mutex is held, each semaphore is taken, each thread waits, lives or has ended. A past has the latest event first.
use Rattle.std.specs.Prelude.{ℕ, ◌<◌, Some, None}
use Rattle.std.specs.declared.option.Option.{Option}
use Rattle.larch_actions.specs.declared.event.Event.{Event}
use Rattle.larch_actions.specs.Layout.{most_threads}
use Rattle.larch_actions.specs.Actions.{put}
use Rattle.larch_actions.specs.State.{shown_at}
use Rattle.trace_board.specs.declared.history.Origin.{Origin}
use Rattle.trace_board.specs.declared.history.Change.{Change}
use Rattle.trace_board.specs.declared.history.Change.TheVariants.{Begins, Ends, Stays}
use Rattle.trace_board.specs.declared.history.Table.{Table}
use Rattle.trace_board.specs.Marks.{marks}

-- the name in an effect is that of one of as many things as there may be threads
abbrev pub IsWithin : Change → Type 0
IsWithin (Begins k) = k < most_threads
IsWithin (Ends k) = k < most_threads
IsWithin Stays = Unit {0}

-- what an effect changes: since which event each thing is taken, where it is
abbrev pub changed : Change → Origin → (ℕ → Option Origin) → ℕ → Option Origin
changed (Begins k) o f = put f k (Some o)
changed (Ends k) o f = put f k None
changed Stays o f = f

-- what begins to live, and what has ended from then on
abbrev pub begun_by : Change → Change
begun_by (Begins k) = Begins k
begun_by _ = Stays

abbrev pub ended_by : Change → Change
ended_by (Ends k) = Begins k
ended_by _ = Stays

-- the event as the one since which something is so
abbrev pub origin_of : ℕ → Event → Origin
origin_of n e = record { thread = e.thread; object = (marks e).object; place = n }

-- what a table says
abbrev pub entry_of : Table → ℕ → Option Origin
entry_of t = shown_at (λ x. x) None t.entries
