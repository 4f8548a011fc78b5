-- Which lane of its thread's row each bar has: the first that no bar open there had when it opened, and the last where each was taken.
use Rattle.std.specs.Prelude.{ℕ, ◌==◌, Bool, false, if◌then◌else◌, Some, None}
use Rattle.std.specs.declared.option.Option.{Option}
use Rattle.larch_actions.specs.Actions.{put}
use Rattle.larch_actions.specs.State.{shown_at}
use Rattle.trace_board.specs.declared.history.Origin.{Origin}
use Rattle.trace_board.specs.declared.history.Change.{Change}
use Rattle.trace_board.specs.declared.history.Change.TheVariants.{Begins, Ends, Stays}
use Rattle.trace_board.specs.declared.rows.Bar.{Bar}
use Rattle.trace_board.specs.declared.rows.Bar.TheVariants.{Mutex, Semaphore}
use Rattle.trace_board.specs.declared.rows.Row.{Row}
use Rattle.trace_board.specs.declared.rows.Rows.{Rows}

-- the bars that have the first three lanes
abbrev pub row_with : Option Bar → Option Bar → Option Bar → Row
row_with a b c = record { first = a; second = b; third = c }

-- no bar is open
abbrev pub empty_row : Row
empty_row = row_with None None None

-- the two bars are one
abbrev pub same_bar : Bar → Bar → Bool
same_bar (Mutex i) (Mutex k) = i == k
same_bar (Mutex i) (Semaphore k) = false
same_bar (Semaphore i) (Mutex k) = false
same_bar (Semaphore i) (Semaphore k) = i == k

-- the bar opens beside these
abbrev pub beside : Bar → Option Bar → Option Bar → Option Bar → Row
beside x None b c = row_with (Some x) b c
beside x (Some i) None c = row_with (Some i) (Some x) c
beside x (Some i) (Some j) None = row_with (Some i) (Some j) (Some x)
beside x (Some i) (Some j) (Some k) = row_with (Some i) (Some j) (Some k)

abbrev pub with_bar : Bar → Row → Row
with_bar x r = beside x r.first r.second r.third

-- the bar is no longer open
abbrev pub let_go : Bar → Option Bar → Option Bar
let_go x None = None
let_go x (Some i) = if same_bar i x then None else Some i

abbrev pub without_bar : Bar → Row → Row
without_bar x r = row_with (let_go x r.first) (let_go x r.second) (let_go x r.third)

-- the lane is that of the bar
abbrev pub has : Bar → Option Bar → Bool
has x None = false
has x (Some i) = same_bar i x

-- the lane of the bar, where it is open
abbrev pub lane_in : Row → Bar → ℕ
lane_in r x = if has x r.first then 0 else (if has x r.second then 1 else (if has x r.third then 2 else 3))

-- the bar opens in the row of the thread t, and is no longer open there
abbrev pub begun_in : Bar → ℕ → (ℕ → Row) → ℕ → Row
begun_in x t f = put f t (with_bar x (f t))

abbrev pub ended_in : Bar → ℕ → (ℕ → Row) → ℕ → Row
ended_in x t f = put f t (without_bar x (f t))

-- what the effect on a mutex by the thread t changes in its row
abbrev pub turned : Change → ℕ → (ℕ → Row) → ℕ → Row
turned (Begins m) t f = begun_in (Mutex m) t f
turned (Ends m) t f = ended_in (Mutex m) t f
turned Stays t f = f

-- the bar of a semaphore is no longer open in the row of the thread that took it
abbrev pub left : ℕ → Option Origin → (ℕ → Row) → ℕ → Row
left s None f = f
left s (Some o) f = ended_in (Semaphore s) o.thread.0 f

-- what the effect on a semaphore by the thread t changes: it may have been taken by another thread
abbrev pub turned_by_semaphore : Change → ℕ → (ℕ → Option Origin) → (ℕ → Row) → ℕ → Row
turned_by_semaphore (Begins s) t taken f = begun_in (Semaphore s) t f
turned_by_semaphore (Ends s) t taken f = left s (taken s) f
turned_by_semaphore Stays t taken f = f

-- what a table says
abbrev pub row_of : Rows → ℕ → Row
row_of t = shown_at (λ x. x) empty_row t.entries
