-- For how long each mutex was held at the longest, in events.
use Rattle.std.specs.Prelude.{ℕ, ◌-◌, nat_lt, Bool, true, if◌then◌else◌, Some, None}
use Rattle.std.specs.declared.option.Option.{Option}
use Rattle.larch_actions.specs.Actions.{put}
use Rattle.larch_actions.specs.State.{shown_at}
use Rattle.trace_board.specs.declared.history.Origin.{Origin}
use Rattle.trace_board.specs.declared.history.Change.{Change}
use Rattle.trace_board.specs.declared.history.Change.TheVariants.{Begins, Ends, Stays}
use Rattle.trace_board.specs.declared.holds.Hold.{Hold}
use Rattle.trace_board.specs.declared.holds.Longest.{Longest}

-- by how many events the last event of a hold is after its first
abbrev pub held_for : Hold → ℕ
held_for h = h.last - h.since.place

-- the hold up to the event n, by which the mutex is given back or not, where it is held
abbrev pub hold_to : Bool → ℕ → Option Origin → Option Hold
hold_to ended n None = None
hold_to ended n (Some o) = Some (record { since = o; last = n; ended = ended })

-- the longer of two, and the first where neither is longer
abbrev pub longer : Option Hold → Option Hold → Option Hold
longer None y = y
longer (Some a) None = Some a
longer (Some a) (Some b) = if nat_lt (held_for a) (held_for b) then Some b else Some a

-- what the effect on a mutex by the event n makes of the longest holds that were given back
abbrev pub lengthened : Change → ℕ → (ℕ → Option Origin) → (ℕ → Option Hold) → ℕ → Option Hold
lengthened (Begins m) n held f = f
lengthened (Ends m) n held f = put f m (longer (f m) (hold_to true n (held m)))
lengthened Stays n held f = f

-- what a table says
abbrev pub longest_of : Longest → ℕ → Option Hold
longest_of t = shown_at (λ x. x) None t.entries
