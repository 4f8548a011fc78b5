-- Where things stand in the picture: a band of columns, one an event, with a row a thread, in points from the upper left.
use Rattle.std.specs.Prelude.{ℕ, ◌+◌, ◌-◌, ◌*◌, ◌/◌, ◌%◌, ◌==◌, ◌&&◌, not, nat_lt, nat_le, Bool, true, false, min, max, if◌then◌else◌}
use Rattle.larch_actions.specs.declared.event.Layout.{Layout}
use Rattle.larch_actions.specs.State.{shown_at}
use Rattle.trace_board.specs.declared.history.Origin.{Origin}
use Rattle.trace_shapes.specs.declared.view.DrawnRange.{DrawnRange}
use Rattle.trace_shapes.specs.declared.view.RowKind.{RowKind}
use Rattle.trace_shapes.specs.declared.view.RowKind.TheVariants.{Busy, Waiting, Still, Absent}
use Rattle.trace_shapes.specs.declared.view.BandRow.{BandRow}
use Rattle.trace_shapes.specs.declared.view.Plan.{Plan}
use Rattle.trace_shapes.specs.declared.view.Band.{Band}
use Rattle.trace_shapes.specs.declared.view.Reach.{Reach}
use Rattle.trace_shapes.specs.declared.geometry.TheConstants.{BAND, COLUMN, LEFT, ROW, LANE, ROW_GAP, LANES, MARK_TOP, LANE_TOP, THIN_LANE_TOP, WAIT_TOP, THIN_WAIT_TOP, LETTER_LINE, THIN_LINE, WAIT_LINE, THIN_WAIT_LINE, BAR_GAP}

-- the event at place n is drawn
abbrev pub in_view : DrawnRange → ℕ → Bool
in_view v n = nat_le v.first n && nat_lt n v.end

-- how many of the first n events are drawn
abbrev pub shown : DrawnRange → ℕ → ℕ
shown v n = min n v.end - v.first

-- the column of the event in its band
abbrev pub column : DrawnRange → ℕ → ℕ
column v n = (n - v.first) % BAND

-- after n events the last band has room for more
abbrev pub is_open : DrawnRange → ℕ → Bool
is_open v n = nat_lt n v.end && not ((n - v.first) % BAND == 0)

-- how many bands the first n events take
abbrev pub bands : DrawnRange → ℕ → ℕ
bands v n = (shown v n + (BAND - 1)) / BAND

-- the row of a thread with events has a lane for each mutex and semaphore, and at most four
abbrev pub lanes_of : Layout → ℕ
lanes_of l = min (l.mutexes + l.semaphores) LANES

-- how high it is then
abbrev pub busy_height : ℕ → ℕ
busy_height lanes = ROW + LANE * lanes - ROW_GAP

-- the row of a thread in a plan
abbrev pub no_row : BandRow
no_row = record { y = 0; height = 0; kind = Absent }

abbrev pub row_in : Plan → ℕ → BandRow
row_in p t = shown_at (λ x. x) no_row p.rows t

-- it is thin where its thread has no event in the band
abbrev pub is_thin : RowKind → Bool
is_thin Busy = false
is_thin _ = true

-- the band of the event n, with these rows
abbrev pub band_of : Layout → DrawnRange → Plan → ℕ → Band
band_of l v p n = record { start = n - column v n; threads = l.threads; plan = p }

-- the left edge of a column
abbrev pub column_x : ℕ → ℕ
column_x c = LEFT + COLUMN * c

-- how a thread's row is shown in a band, its upper edge and height, and the upper edge of its marks
abbrev pub kind_in : Band → ℕ → RowKind
kind_in b t = (row_in b.plan t).kind

abbrev pub row_y : Band → ℕ → ℕ
row_y b t = (row_in b.plan t).y

abbrev pub row_height : Band → ℕ → ℕ
row_height b t = (row_in b.plan t).height

abbrev pub mark_y : Band → ℕ → ℕ
mark_y b t = row_y b t + MARK_TOP

-- from the upper edge of a row to its first lane, which in a thin row is below its wait
abbrev pub lanes_top : RowKind → ℕ
lanes_top Busy = LANE_TOP
lanes_top Waiting = THIN_LANE_TOP + LANE
lanes_top _ = THIN_LANE_TOP

abbrev pub lane_y : Band → ℕ → ℕ → ℕ
lane_y b t lane = row_y b t + lanes_top (kind_in b t) + LANE * lane

-- from the upper edge of a row to its wait, from there to the line of the wait's name, and from the row's edge to that of its thread's name
abbrev pub wait_top : RowKind → ℕ
wait_top k = if is_thin k then THIN_WAIT_TOP else WAIT_TOP

abbrev pub wait_line : RowKind → ℕ
wait_line k = if is_thin k then THIN_WAIT_LINE else WAIT_LINE

abbrev pub name_line : RowKind → ℕ
name_line k = if is_thin k then THIN_LINE else LETTER_LINE

-- the left edge of the event n in its band
abbrev pub event_x : Band → ℕ → ℕ
event_x b n = column_x (n - b.start)

-- the first event of a bar that its band shows
abbrev pub bar_from : Reach → Origin → ℕ
bar_from r o = min (max o.place r.band.start) r.to

-- A bar ends short of the next column where what it shows ends, so two side by side are seen apart. Where it goes on in the next band it doesn't.
abbrev pub gap_after : Bool → ℕ
gap_after ended = if ended then BAR_GAP else 0

-- the left edge of a bar, and its width
abbrev pub bar_x : Reach → Origin → ℕ
bar_x r o = event_x r.band (bar_from r o)

abbrev pub bar_width : Reach → Origin → ℕ
bar_width r o = COLUMN * (r.to - bar_from r o) - gap_after r.ended

-- a wait stands between the mark that begins it and the one that ends it
abbrev pub wait_x : Reach → Origin → ℕ
wait_x r o = if nat_le r.band.start o.place then event_x r.band (min o.place r.to) + COLUMN else LEFT - BAR_GAP

abbrev pub wait_end : Reach → ℕ
wait_end r = if r.ended then event_x r.band (r.to - 1) - 1 else event_x r.band r.to
