-- What is kept of the events before. The past has the latest event first.
use Rattle.std.specs.Prelude.{ℕ, ◌-◌, ◌<◌, nat_le, Bool, true, false, if◌then◌else◌, List, [], ◌∷◌, length, Some, None}
use Rattle.std.specs.declared.option.Option.{Option}
use Rattle.larch_actions.specs.declared.event.Event.{Event}
use Rattle.larch_actions.specs.declared.event.Version.{Version}
use Rattle.larch_actions.specs.declared.event.Life.{Life}
use Rattle.larch_actions.specs.declared.event.Life.TheVariants.{Live, Ended}
use Rattle.larch_actions.specs.Actions.{lives_at_first}
use Rattle.larch_actions.specs.Layout.{most_threads}
use Rattle.trace_board.specs.declared.history.Origin.{Origin}
use Rattle.trace_board.specs.declared.history.Change.TheVariants.{Begins}
use Rattle.trace_board.specs.declared.causes.Cause.{Cause}
use Rattle.trace_board.specs.declared.causes.Cause.TheVariants.{Never, Awaited, By}
use Rattle.trace_board.specs.declared.rows.Row.{Row}
use Rattle.trace_board.specs.declared.holds.Hold.{Hold}
use Rattle.trace_board.specs.declared.board.TraceState.{TraceState}
use Rattle.trace_board.specs.declared.board.Reason.{Reason}
use Rattle.trace_board.specs.declared.board.Reason.TheVariants as waker
use Rattle.trace_board.specs.declared.board.Reason.TheVariants.{Condition, Semaphore, Alerted, Nobody}
use Rattle.trace_board.specs.Marks.{marks}
use Rattle.trace_board.specs.History.{changed, begun_by, ended_by, origin_of, entry_of, IsWithin}
use Rattle.trace_board.specs.Causes.{moved, cause_of, IsSmall}
use Rattle.trace_board.specs.Rows.{empty_row, turned, turned_by_semaphore, row_of}
use Rattle.trace_board.specs.Holds.{hold_to, longer, lengthened, longest_of}

pub record Tracked : Type 0 where
  -- since which event each mutex is held
  pub held : ℕ → Option Origin
  -- since which event each thread waits
  pub waits : ℕ → Option Origin
  -- in which condition each thread stands, or which event took it out of the one it waits on
  pub stands : ℕ → Cause
  -- that each semaphore isn't available, or which event made it so
  pub opens : ℕ → Cause
  -- which event alerted each thread
  pub alerts : ℕ → Cause
  -- which bar has each lane of each thread's row
  pub rows : ℕ → Row
  -- which event gave each mutex back last
  pub given : ℕ → Option Origin
  -- since which event each semaphore is taken
  pub taken : ℕ → Option Origin
  -- the longest hold of each mutex that was given back
  pub longest : ℕ → Option Hold
  -- the latest event of each thread
  pub latest : ℕ → Option Origin
  -- which event forked each thread, and by which each ended
  pub born : ℕ → Option Origin
  pub over : ℕ → Option Origin

abbrev pub nothing_tracked : Tracked
nothing_tracked =
    record {
      held = λ (k : ℕ). None;
      waits = λ (k : ℕ). None;
      stands = λ (k : ℕ). Never;
      opens = λ (k : ℕ). Never;
      alerts = λ (k : ℕ). Never;
      rows = λ (k : ℕ). empty_row;
      given = λ (k : ℕ). None;
      taken = λ (k : ℕ). None;
      longest = λ (k : ℕ). None;
      latest = λ (k : ℕ). None;
      born = λ (k : ℕ). None;
      over = λ (k : ℕ). None;
    }

-- what is kept after the event at the place n
abbrev pub tracked_after : ℕ → Event → Tracked → Tracked
tracked_after n e k = record {
  held = changed (marks e).mutex (origin_of n e) k.held;
  waits = changed (marks e).wait (origin_of n e) k.waits;
  stands = moved (marks e).stand (origin_of n e) k.stands;
  opens = moved (marks e).avail (origin_of n e) k.opens;
  alerts = moved (marks e).alert (origin_of n e) k.alerts;
  rows = turned_by_semaphore (marks e).semaphore e.thread.0 k.taken (turned (marks e).mutex e.thread.0 k.rows);
  given = changed (ended_by (marks e).mutex) (origin_of n e) k.given;
  taken = changed (marks e).semaphore (origin_of n e) k.taken;
  longest = lengthened (marks e).mutex n k.held k.longest;
  latest = changed (Begins e.thread.0) (origin_of n e) k.latest;
  born = changed (begun_by (marks e).life) (origin_of n e) k.born;
  over = changed (ended_by (marks e).life) (origin_of n e) k.over;
}

-- what is kept after these events
abbrev pub tracked_since : List Event → Tracked
tracked_since [] = nothing_tracked
tracked_since (e ∷ past) = tracked_after (length past) e (tracked_since past)

-- the longest hold of the mutex m: one that is under way counts up to the event before n
abbrev pub longest_in : Tracked → ℕ → ℕ → Option Hold
longest_in k n m = longer (k.longest m) (hold_to false (n - 1) (k.held m))

-- it is so since the event `start` or a later one
abbrev pub is_from : ℕ → Option Origin → Bool
is_from start None = false
is_from start (Some o) = nat_le start o.place

-- the thread t had an event from the event `start` on
abbrev pub has_run : Tracked → ℕ → ℕ → Bool
has_run k start t = is_from start (k.latest t)

abbrev pub held_or : Option Origin → Bool → Bool
held_or None b = b
held_or (Some o) b = true

-- the mutex m is held, or was given back from the event `start` on
abbrev pub was_held : Tracked → ℕ → ℕ → Bool
was_held k start m = held_or (k.held m) (is_from start (k.given m))

-- the event that forked the thread t, where it has had no event
abbrev pub forked_by : Tracked → ℕ → Option Origin
forked_by k t = if has_run k 0 t then None else k.born t

-- the life of a thread that these events forked and ended, where they did
abbrev pub life_by : Life → Option Origin → Option Origin → Life
life_by first born (Some o) = Ended
life_by first None None = first
life_by first (Some o) None = Live

-- whether the thread t is unborn, lives or has ended
abbrev pub life_in : Version → Tracked → ℕ → Life
life_in version k t = life_by (lives_at_first version t) (k.born t) (k.over t)

-- the events before, and then these, the latest first
abbrev pub extended : List Event → List Event → List Event
extended past [] = past
extended past (e ∷ es) = extended (e ∷ past) es

abbrev pub IsNear : Reason → Type 0
IsNear (Condition t) = t < most_threads
IsNear (Semaphore s) = s < most_threads
IsNear (Alerted t) = t < most_threads
IsNear (waker.Ended t) = t < most_threads
IsNear Nobody = Unit {0}

-- each thing that an event takes, gives back, awaits or lets go on, and each thread that it forks, ends or joins, has such a number
pub record IsNoted (e : Event) : Type 0 where
  pub thread : e.thread.0 < most_threads
  pub held : IsWithin (marks e).mutex
  pub taken : IsWithin (marks e).semaphore
  pub waits : IsWithin (marks e).wait
  pub life : IsWithin (marks e).life
  pub stands : IsSmall (marks e).stand
  pub opens : IsSmall (marks e).avail
  pub alerts : IsSmall (marks e).alert
  pub waker : IsNear (marks e).waker

-- the event that a cause is
abbrev pub came : Cause → Option Origin
came Never = None
came (Awaited k) = None
came (By o) = Some o

-- the event by which a thread goes on
abbrev pub let_on_by : Tracked → Reason → Option Origin
let_on_by k (Condition t) = came (k.stands t)
let_on_by k (Semaphore s) = came (k.opens s)
let_on_by k (Alerted t) = came (k.alerts t)
let_on_by k (waker.Ended t) = k.over t
let_on_by k Nobody = None

-- what the tables say
abbrev pub tracked_of : TraceState → Tracked
tracked_of b =
    record {
      held = entry_of b.held;
      waits = entry_of b.waits;
      stands = cause_of b.stands;
      opens = cause_of b.opens;
      alerts = cause_of b.alerts;
      rows = row_of b.rows;
      given = entry_of b.given;
      taken = entry_of b.taken;
      longest = longest_of b.longest;
      latest = entry_of b.latest;
      born = entry_of b.lives.born;
      over = entry_of b.lives.over;
    }
