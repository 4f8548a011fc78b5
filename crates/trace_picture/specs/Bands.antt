-- What each event adds to the picture.
use Rattle.std.specs.Prelude.{ℕ, ◌+◌, ◌-◌, ◌/◌, ◌==◌, ◌&&◌, nat_lt, Bool, true, false, if◌then◌else◌, List, [], ◌++◌, codes, Some, None}
use Rattle.std.specs.declared.option.Option.{Option}
use Rattle.larch_actions.specs.declared.event.Layout.{Layout}
use Rattle.larch_actions.specs.declared.event.Version.{Version}
use Rattle.larch_actions.specs.State.{count_below}
use Rattle.larch_actions.specs.declared.event.Event.{Event}
use Rattle.larch_actions.specs.declared.event.Broken.{Broken}
use Rattle.larch_actions.specs.declared.thread_set.ThreadSet.{ThreadSet}
use Rattle.trace_board.specs.declared.history.Origin.{Origin}
use Rattle.trace_board.specs.declared.history.Change.{Change}
use Rattle.trace_board.specs.declared.history.Change.TheVariants.{Begins, Ends, Stays}
use Rattle.trace_board.specs.declared.marks.Effects.{Effects}
use Rattle.trace_board.specs.declared.causes.Cause.{Cause}
use Rattle.trace_board.specs.declared.causes.CauseChange.{CauseChange}
use Rattle.trace_board.specs.declared.causes.CauseChange.TheVariants.{Frees}
use Rattle.trace_board.specs.declared.board.Reason.{Reason}
use Rattle.trace_board.specs.declared.board.Reason.TheVariants as waker
use Rattle.trace_board.specs.declared.board.Reason.TheVariants.{Condition, Alerted, Ended, Nobody}
use Rattle.trace_board.specs.declared.rows.Bar.TheVariants.{Mutex, Semaphore}
use Rattle.trace_shapes.specs.declared.view.DrawnRange.{DrawnRange}
use Rattle.trace_shapes.specs.declared.view.Plan.{Plan}
use Rattle.trace_shapes.specs.declared.view.Band.{Band}
use Rattle.trace_shapes.specs.declared.view.Reach.{Reach}
use Rattle.trace_shapes.specs.declared.view.Strip.{Strip}
use Rattle.trace_shapes.specs.declared.geometry.TheConstants.{BAND, LINES_TOP, NAME_LINE, IDLE_NAMES}
use Rattle.trace_board.specs.Marks.{marks}
use Rattle.trace_board.specs.Tracked.{Tracked, tracked_after, came, let_on_by}
use Rattle.trace_board.specs.History.{origin_of}
use Rattle.trace_board.specs.Rows.{lane_in}
use Rattle.trace_shapes.specs.Places.{in_view, column, is_open, band_of}
use Rattle.trace_shapes.specs.Shapes.{with_number, each_below, mark_text, object_if, failed_text, bar_text, taken_text, wait_text, number_text}
use Rattle.trace_shapes.specs.declared.view.Freeing.{Freeing}
use Rattle.trace_shapes.specs.declared.view.Shape.{Shape}
use Rattle.trace_shapes.specs.declared.view.Shape.TheVariants.{Straight, Bent, FromEnd}
use Rattle.trace_shapes.specs.Arrows.{arrow_if, wake_if, fork_text}
use Rattle.trace_picture.specs.declared.plan.Page.{Page}
use Rattle.trace_picture.specs.Plan.{is_idle, idle_count}
use Rattle.trace_picture.specs.Lives.{row_if, life_row}
use Rattle.trace_picture.specs.Overview.{column_text}

-- the number of a band
abbrev pub band_number : DrawnRange → Band → ℕ
band_number v b = (b.start - v.first) / BAND

-- the lines at each tenth column, to the lower edge of the last row
abbrev pub lines_height : Plan → ℕ
lines_height p = p.end - LINES_TOP

unfoldable pub lines_text : ℕ → List ℕ
lines_text height =
    with_number (codes "<path class='l' d='M283 17v") height ++ with_number (codes "M523 17v") height
    ++ with_number (codes "M763 17v") height ++ with_number (codes "M1003 17v") height ++ codes "'/>\n"

-- the first tag of a band
unfoldable pub band_tag : ℕ → ℕ → List ℕ
band_tag top k = with_number (codes "<g id='b") k ++ with_number (codes "' transform='translate(0 ") top ++ codes ")'>\n"

-- the line that names the threads that live and have no row: the first of them, and how many more there are
abbrev pub idle_name : Version → Plan → Tracked → ℕ → List ℕ
idle_name version p k t =
    if is_idle version p k t && nat_lt (count_below (is_idle version p k) t) IDLE_NAMES then with_number (codes " t") t else []

abbrev pub more_idle : ℕ → List ℕ
more_idle idle = if nat_lt IDLE_NAMES idle then with_number (codes " and ") (idle - IDLE_NAMES) ++ codes " more" else []

unfoldable pub idle_line : Layout → Plan → Tracked → List ℕ
idle_line l p k =
    with_number (codes "<text class='c' x='6' y='") (p.end + NAME_LINE) ++ codes "'>idle:" ++ each_below (idle_name l.version p k) l.threads
    ++ more_idle (idle_count l p k) ++ codes "</text>\n"

abbrev pub idle_text : Layout → Plan → Tracked → List ℕ
idle_text l p k = if nat_lt 0 (idle_count l p k) then idle_line l p k else []

-- a new band with its rows, where the event n begins one
unfoldable pub opening : Layout → DrawnRange → Page → Tracked → ℕ → List ℕ
opening l v p k n =
    if column v n == 0 then
    band_tag p.top (band_number v (band_of l v p.plan n)) ++ each_below (row_if l.version (band_of l v p.plan n) k) l.threads
    ++ lines_text (lines_height p.plan) ++ idle_text l p.plan k
    else []

-- a bar that goes on up to the event before `to`, and one that ends with the event n
abbrev pub on_to : Band → ℕ → Reach
on_to b to = record { band = b; to = to; ended = false }

abbrev pub up_to : Band → ℕ → Reach
up_to b n = record { band = b; to = n + 1; ended = true }

-- what the bars of a mutex and of a semaphore show
abbrev pub strip_of : Tracked → ℕ → Origin → Strip
strip_of k m o = record { number = m; lane = lane_in (k.rows o.thread.0) (Mutex m); since = o; given = k.given m }

abbrev pub taken_strip : Tracked → ℕ → Origin → Strip
taken_strip k s o = record { number = s; lane = lane_in (k.rows o.thread.0) (Semaphore s); since = o; given = None }

-- the bar of a mutex, where it is held
abbrev pub bar_if : Reach → Tracked → ℕ → Option Origin → List ℕ
bar_if r k m None = []
bar_if r k m (Some o) = bar_text r (strip_of k m o)

-- the bar of a semaphore, where it is taken
abbrev pub taken_if : Reach → Tracked → ℕ → Option Origin → List ℕ
taken_if r k s None = []
taken_if r k s (Some o) = taken_text r (taken_strip k s o)

-- a wait, where a thread waits, and which event let it go on
abbrev pub wait_if : Reach → Option Origin → Option Origin → List ℕ
wait_if r p None = []
wait_if r p (Some o) = wait_text r o p

-- the bars that go on
unfoldable pub bars_on : Layout → Reach → Tracked → List ℕ
bars_on l r k =
    each_below (λ m. bar_if r k m (k.held m)) l.mutexes ++ each_below (λ s. taken_if r k s (k.taken s)) l.semaphores
    ++ each_below (λ t. wait_if r (came (k.stands t)) (k.waits t)) l.threads

-- the last tag of a band, and its column of the overview up to the event before `to`
unfoldable pub band_end : Layout → DrawnRange → Band → Tracked → ℕ → List ℕ
band_end l v b k to = codes "</g>\n" ++ column_text l k (band_number v b) b.start to

-- the end of a band, before the event `to`: the bars that go on come first
unfoldable pub closing : Layout → DrawnRange → Band → Tracked → ℕ → List ℕ
closing l v b k to = bars_on l (on_to b to) k ++ band_end l v b k to

-- the bar that ends with the event n
abbrev pub bar_ended : Reach → Tracked → Change → List ℕ
bar_ended r k (Begins m) = []
bar_ended r k (Ends m) = bar_if r k m (k.held m)
bar_ended r k Stays = []

-- the bar of the semaphore that the event n makes available
abbrev pub taken_ended : Reach → Tracked → Change → List ℕ
taken_ended r k (Begins s) = []
taken_ended r k (Ends s) = taken_if r k s (k.taken s)
taken_ended r k Stays = []

abbrev pub wait_ended : Reach → Tracked → Option Origin → Change → List ℕ
wait_ended r k p (Begins t) = []
wait_ended r k p (Ends t) = wait_if r p (k.waits t)
wait_ended r k p Stays = []

-- the end of the band of the event n, where it is full or the part that is drawn ends
unfoldable pub closing_after : Layout → DrawnRange → Plan → Tracked → ℕ → List ℕ
closing_after l v p k n = if is_open v (n + 1) then [] else closing l v (band_of l v p n) k (n + 1)

-- the bars that the event n ends
abbrev pub bars_ended : Reach → Tracked → Effects → List ℕ
bars_ended r k m = bar_ended r k m.mutex ++ taken_ended r k m.semaphore ++ wait_ended r k (let_on_by k m.waker) m.wait

-- the arrow to the event o, where another thread let its thread go on: one that was in a condition has its arrow at the event that took it out
abbrev pub way_from_alert : Change → Shape
way_from_alert (Ends t) = Straight
way_from_alert _ = Bent

abbrev pub arrow_by : Band → Tracked → Origin → Change → Reason → List ℕ
arrow_by b k o wait (Condition t) = []
arrow_by b k o wait (waker.Semaphore s) = arrow_if Bent b o.place o.thread.0 (let_on_by k (waker.Semaphore s))
arrow_by b k o wait (Alerted t) = arrow_if (way_from_alert wait) b o.place o.thread.0 (let_on_by k (Alerted t))
arrow_by b k o wait (Ended t) = arrow_if FromEnd b o.place o.thread.0 (let_on_by k (Ended t))
arrow_by b k o wait Nobody = []

-- the arrows to the threads that the event o takes out of their condition
abbrev pub freeing : Band → Origin → ℕ → ThreadSet → Freeing
freeing b o c left = record { band = b; by = o; cond = c; left = left }

-- which thread's arrow comes then: from the first thread down to the event's own, and from the last up to it, so that no arrow covers the head of a shorter one
abbrev pub thread_at : Freeing → ℕ → ℕ
thread_at f i = if nat_lt i f.by.thread.0 then i else f.by.thread.0 + (f.band.threads - 1 - i)

abbrev pub wake_at : Freeing → (ℕ → Cause) → ℕ → List ℕ
wake_at f stands i = wake_if f (thread_at f i) (stands (thread_at f i))

abbrev pub wakes : Freeing → (ℕ → Cause) → List ℕ
wakes f stands = each_below (wake_at f stands) f.band.threads

abbrev pub wakes_by : Band → Origin → (ℕ → Cause) → CauseChange → List ℕ
wakes_by b o stands (Frees c left) = wakes (freeing b o c left) stands
wakes_by b o stands _ = []

-- the arrow to the thread that the event o forks
abbrev pub fork_by : Band → Origin → Change → List ℕ
fork_by b o (Begins u) = fork_text b o u
fork_by b o _ = []

-- the arrows from and to the event n
unfoldable pub arrows_at : Band → Tracked → Origin → Effects → List ℕ
arrows_at b k o m = arrow_by b k o m.wait m.waker ++ wakes_by b o k.stands m.stand ++ fork_by b o m.life

-- the event n: the row that it begins or ends, its mark and the number of its object, and the bars that it ends
abbrev pub event_marks : Bool → Band → Tracked → ℕ → Event → List ℕ
event_marks ordered b k n e =
    number_text b n ++ life_row b n (marks e).life ++ mark_text ordered b n e ++ object_if b n e ++ bars_ended (up_to b n) k (marks e)

-- and the arrows from it and to it
unfoldable pub event_shapes : Bool → Band → Tracked → ℕ → Event → List ℕ
event_shapes ordered b k n e = event_marks ordered b k n e ++ arrows_at b k (origin_of n e) (marks e)

-- all that the event n adds on this page, where it is drawn
unfoldable pub step_text : Layout → DrawnRange → Page → Tracked → ℕ → Event → List ℕ
step_text l v p k n e =
    if in_view v n then
    opening l v p k n ++ event_shapes v.ordered (band_of l v p.plan n) k n e ++ closing_after l v p.plan (tracked_after n e k) n
    else []

-- all that an event that fails adds, where it is drawn: it ends its band, and the bars that go on end before it
unfoldable pub failing_text : Layout → DrawnRange → Page → Tracked → ℕ → Event → Broken → List ℕ
failing_text l v p k n e why =
    if in_view v n then
    opening l v p k n ++ bars_on l (on_to (band_of l v p.plan n) n) k
    ++ (number_text (band_of l v p.plan n) n ++ failed_text (band_of l v p.plan n) n e why) ++ band_end l v (band_of l v p.plan n) k (n + 1)
    else []
