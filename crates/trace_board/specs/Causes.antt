-- Which event let a thread go on: the one that took it out of its condition, that made its semaphore available, or that alerted it.
use Rattle.std.specs.Prelude.{ℕ, ◌<◌, ◌==◌, ◌&&◌, not, Bool, if◌then◌else◌}
use Rattle.larch_actions.specs.Layout.{most_threads}
use Rattle.larch_actions.specs.Actions.{put}
use Rattle.larch_actions.specs.Sets.{in_set}
use Rattle.larch_actions.specs.State.{shown_at}
use Rattle.trace_board.specs.declared.history.Origin.{Origin}
use Rattle.trace_board.specs.declared.causes.Cause.{Cause}
use Rattle.trace_board.specs.declared.causes.Cause.TheVariants.{Never, Awaited, By}
use Rattle.trace_board.specs.declared.causes.CauseChange.{CauseChange}
use Rattle.trace_board.specs.declared.causes.CauseChange.TheVariants.{Awaits, Ends, Frees, Opens, Comes, Stays}
use Rattle.trace_board.specs.declared.causes.Causes.{Causes}

-- what a Signal or a Broadcast of c, which leaves the thread there or not, makes of it: who stood in c and isn't left was taken out by this event
abbrev pub take_out : ℕ → Bool → Origin → Cause → Cause
take_out c stays o Never = Never
take_out c stays o (Awaited k) = if k == c && not stays then By o else Awaited k
take_out c stays o (By p) = By p

-- a V makes a semaphore available that wasn't
abbrev pub opened : Origin → Cause → Cause
opened o Never = Never
opened o (Awaited k) = By o
opened o (By p) = By p

-- of several Alerts the first alerts a thread
abbrev pub come : Origin → Cause → Cause
come o Never = By o
come o (Awaited k) = By o
come o (By p) = By p

-- the name in a move is that of one of as many things as there may be threads
abbrev pub IsSmall : CauseChange → Type 0
IsSmall (Awaits k c) = k < most_threads
IsSmall (Ends k) = k < most_threads
IsSmall (Frees c left) = Unit {0}
IsSmall (Opens k) = k < most_threads
IsSmall (Comes k) = k < most_threads
IsSmall Stays = Unit {0}

-- what a move changes, by this event
abbrev pub moved : CauseChange → Origin → (ℕ → Cause) → ℕ → Cause
moved (Awaits k c) o f = put f k (Awaited c)
moved (Ends k) o f = put f k Never
moved (Frees c left) o f = λ t. take_out c (in_set left t) o (f t)
moved (Opens k) o f = put f k (opened o (f k))
moved (Comes k) o f = put f k (come o (f k))
moved Stays o f = f

-- what a table says
abbrev pub cause_of : Causes → ℕ → Cause
cause_of t = shown_at (λ x. x) Never t.entries
