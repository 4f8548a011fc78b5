-- The rows of a band: high for a thread that has one of its events, thin for one that only waits, holds something or is forked there, and none for
-- the others.
use Rattle.std.specs.Prelude.{ℕ, zero, suc, ◌+◌, ◌-◌, ◌*◌, ◌==◌, ◌||◌, ◌&&◌, nat_lt, Bool, true, false, is_some, min, max, if◌then◌else◌, List, [], ◌∷◌, ◌++◌, replicate, Some, None}
use Rattle.std.specs.declared.option.Option.{Option}
use Rattle.larch_actions.specs.declared.event.Layout.{Layout}
use Rattle.larch_actions.specs.declared.event.Version.{Version}
use Rattle.larch_actions.specs.declared.event.Version.TheVariants.{One, Two}
use Rattle.larch_actions.specs.declared.event.Event.{Event}
use Rattle.larch_actions.specs.State.{count_below}
use Rattle.trace_board.specs.declared.history.Origin.{Origin}
use Rattle.trace_board.specs.declared.history.Change.{Change}
use Rattle.trace_board.specs.declared.history.Change.TheVariants.{Begins}
use Rattle.trace_board.specs.declared.rows.Bar.{Bar}
use Rattle.trace_board.specs.declared.rows.Bar.TheVariants.{Mutex, Semaphore}
use Rattle.trace_board.specs.Marks.{marks}
use Rattle.trace_board.specs.Rows.{lane_in}
use Rattle.trace_board.specs.Tracked.{Tracked, life_in}
use Rattle.trace_board.specs.Laws.{is_live}
use Rattle.trace_shapes.specs.declared.view.DrawnRange.{DrawnRange}
use Rattle.trace_shapes.specs.declared.view.RowKind.{RowKind}
use Rattle.trace_shapes.specs.declared.view.RowKind.TheVariants.{Busy, Waiting, Still, Absent}
use Rattle.trace_shapes.specs.declared.view.BandRow.{BandRow}
use Rattle.trace_shapes.specs.declared.view.Plan.{Plan}
use Rattle.trace_shapes.specs.declared.geometry.TheConstants.{BAND, AXIS, BAND_GAP, LANE, ROW_GAP, THIN_GAP, IDLE}
use Rattle.trace_shapes.specs.Places.{lanes_of, busy_height, no_row, row_in}
use Rattle.trace_picture.specs.declared.plan.Page.{Page}

-- one of these events is the thread's, and one of them forks it
abbrev pub acts : List Event → ℕ → Bool
acts [] t = false
acts (e ∷ es) t = e.thread.0 == t || acts es t

abbrev pub begins_it : Change → ℕ → Bool
begins_it (Begins u) t = u == t
begins_it _ t = false

abbrev pub forks_it : List Event → ℕ → Bool
forks_it [] t = false
forks_it (e ∷ es) t = begins_it (marks e).life t || forks_it es t

-- how many lanes of the thread's row a bar needs, where it is in that row
abbrev pub lanes_to : Tracked → ℕ → Bar → Option Origin → ℕ
lanes_to k t x None = 0
lanes_to k t x (Some o) = if o.thread.0 == t then lane_in (k.rows t) x + 1 else 0

-- the most of the numbers of those below n, and their sum
unfoldable pub most_below : (ℕ → ℕ) → ℕ → ℕ
most_below f zero = 0
most_below f (suc n) = max (most_below f n) (f n)

unfoldable pub sum_below : (ℕ → ℕ) → ℕ → ℕ
sum_below f zero = 0
sum_below f (suc n) = sum_below f n + f n

-- how many lanes the bars in the thread's row need
abbrev pub depth_of : Layout → Tracked → ℕ → ℕ
depth_of l k t =
    max (most_below (λ m. lanes_to k t (Mutex m) (k.held m)) l.mutexes) (most_below (λ s. lanes_to k t (Semaphore s) (k.taken s)) l.semaphores)

-- how a thread is shown that has no event, by whether it waits, and whether it has a bar or is forked
abbrev pub thin_kind : Bool → Bool → RowKind
thin_kind true other = Waiting
thin_kind false true = Still
thin_kind false false = Absent

-- how a thread is shown in the band of these events, before which that is kept
abbrev pub kind_of : Layout → Tracked → List Event → ℕ → RowKind
kind_of l k es t =
    if acts es t then Busy
    else (if nat_lt t l.threads then thin_kind (is_some (k.waits t)) (nat_lt 0 (depth_of l k t) || forks_it es t) else Absent)

-- how high its row is, and how far below it the next begins
abbrev pub high : RowKind → ℕ → ℕ → ℕ
high Busy lanes depth = busy_height lanes
high Waiting lanes depth = LANE * (depth + 1)
high Still lanes depth = LANE * max depth 1
high Absent lanes depth = 0

abbrev pub gap_below : RowKind → ℕ
gap_below Busy = ROW_GAP
gap_below Waiting = THIN_GAP
gap_below Still = THIN_GAP
gap_below Absent = 0

abbrev pub height_of : Layout → Tracked → List Event → ℕ → ℕ
height_of l k es t = high (kind_of l k es t) (lanes_of l) (depth_of l k t)

abbrev pub step_of : Layout → Tracked → List Event → ℕ → ℕ
step_of l k es t = height_of l k es t + gap_below (kind_of l k es t)

-- the upper edge of a row is below all rows of the threads before
abbrev pub top_of : Layout → Tracked → List Event → ℕ → ℕ
top_of l k es t = AXIS + sum_below (step_of l k es) t

abbrev pub row_with : Layout → Tracked → List Event → ℕ → ℕ → BandRow
row_with l k es t y = record { y = y; height = height_of l k es t; kind = kind_of l k es t }

abbrev pub row_of : Layout → Tracked → List Event → ℕ → BandRow
row_of l k es t = row_with l k es t (top_of l k es t)

unfoldable pub rows_below : (ℕ → BandRow) → ℕ → List BandRow
rows_below f zero = []
rows_below f (suc n) = rows_below f n ++ f n ∷ []

-- the rows of the band of these events
abbrev pub plan_of : Layout → Tracked → List Event → Plan
plan_of l k es = record { rows = rows_below (row_of l k es) 256; end = top_of l k es 256 }

-- the thread lives at the start of a band
abbrev pub has_row : Version → Tracked → ℕ → Bool
has_row One k t = true
has_row Two k t = is_live (life_in Two k t)

-- it has no row there
abbrev pub is_absent : RowKind → Bool
is_absent Absent = true
is_absent _ = false

-- it lives and has no row, and how many such threads there are
abbrev pub is_idle : Version → Plan → Tracked → ℕ → Bool
is_idle version p k t = has_row version k t && is_absent (row_in p t).kind

abbrev pub idle_count : Layout → Plan → Tracked → ℕ
idle_count l p k = count_below (is_idle l.version p k) l.threads

-- how high the line is that names them
abbrev pub idle_height : ℕ → ℕ
idle_height idle = if nat_lt 0 idle then IDLE else 0

-- no band so far
unfoldable pub no_rows : List BandRow
no_rows = replicate 256 no_row

abbrev pub no_page : Page
no_page = record { plan = record { rows = no_rows; end = 0 }; top = 0; next = 0 }

-- a new band with this upper edge, of these events
abbrev pub page_of : Layout → Tracked → List Event → ℕ → Page
page_of l k es top = record {
  plan = plan_of l k es;
  top = top;
  next = top + (top_of l k es 256 + idle_height (idle_count l (plan_of l k es) k) + BAND_GAP);
}

-- how many events a band has that begins with the event n
abbrev pub room_of : DrawnRange → ℕ → ℕ
room_of v n = min BAND (v.end - n)
