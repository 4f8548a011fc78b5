-- What the marks and the bars that are drawn say.
use Rattle.std.specs.Prelude.{◌≡◌, ◌≢◌, ℕ, ◌+◌, ◌-◌, ◌*◌, ◌%◌, ◌<◌, ◌≤◌, ◌&&◌, not, true, false, if◌then◌else◌, List, [], ◌∷◌, ◌++◌, length, codes, is_some, Some, MatchOption}
use Rattle.std.specs.declared.option.Option.{Option}
use Rattle.larch_actions.specs.declared.event.Layout.{Layout}
use Rattle.larch_actions.specs.declared.event.Version.TheVariants.{Two}
use Rattle.larch_actions.specs.declared.event.ThreadId.{ThreadId}
use Rattle.larch_actions.specs.declared.event.Event.{Event}
use Rattle.larch_actions.specs.declared.event.Action.{Action}
use Rattle.larch_actions.specs.declared.event.Action.TheVariants.{Acquire, Release, Enqueue, Resume, AlertEnqueue, AlertReturn, AlertRaise, Signal, Broadcast, P, V, Alert, TestAlert, AlertPReturn, AlertPRaise, Fork, End, Join}
use Rattle.larch_actions.specs.Actions.{Spec, acted, IsRun, MayAct}
use Rattle.trace_board.specs.declared.history.Origin.{Origin}
use Rattle.lock_order.specs.declared.answer.Edge.{Edge}
use Rattle.lock_order.specs.Order.{Nests}
use Rattle.trace_board.specs.declared.history.Change.TheVariants.{Ends}
use Rattle.trace_board.specs.declared.rows.Bar.{Bar}
use Rattle.trace_board.specs.declared.rows.Bar.TheVariants.{Mutex, Semaphore}
use Rattle.trace_shapes.specs.declared.view.DrawnRange.{DrawnRange}
use Rattle.trace_board.specs.declared.marks.Mark.{Mark}
use Rattle.trace_shapes.specs.Looks.{look_of}
use Rattle.trace_shapes.specs.declared.legend.Entry.TheVariants.{OfMark}
use Rattle.trace_shapes.specs.Legend.{entry_text, legend_text}
use Rattle.trace_board.specs.Marks.{marks, marks_of}
use Rattle.trace_board.specs.History.{origin_of}
use Rattle.trace_board.specs.Tracked.{Tracked, tracked_since, extended, longest_in, forked_by, let_on_by}
use Rattle.trace_shapes.specs.declared.view.Band.{Band}
use Rattle.trace_picture.specs.declared.plan.Page.{Page}
use Rattle.trace_picture.specs.Plan.{is_absent, is_idle}
use Rattle.larch_actions.specs.State.{count_below}
use Rattle.trace_shapes.specs.declared.geometry.TheConstants.{BAND, COLUMN, LEFT, MARK_TOP, LANE, BAR_GAP, ROW_RIGHT, IDLE_NAMES}
use Rattle.trace_shapes.specs.Places.{in_view, column, band_of, row_in, lanes_top, bar_x, bar_width}
use Rattle.trace_shapes.specs.Shapes.{each_below, place_text, box_text, row_text, parts_text, with_number, line_of}
use Rattle.trace_shapes.specs.declared.view.Shape.TheVariants.{FromEnd}
use Rattle.trace_shapes.specs.Arrows.{link, arrow_text, wake_text, fork_text}
use Rattle.trace_picture.specs.Bands.{up_to, opening, step_text}
use Rattle.trace_picture.specs.Shown.{shown_since}
use Rattle.trace_picture.specs.Picture.{end_text}
use Rattle.trace_board.specs.Laws.{IsSince, IsMadeBy, HasEvent, is_live, is_ended, awaited_by}

-- the kinds of actions, in the order of the table
abbrev pub kind_of : Action → ℕ
kind_of (Acquire m) = 0
kind_of (Release m) = 1
kind_of (Enqueue m c) = 2
kind_of (Resume m c) = 3
kind_of (Signal c left) = 4
kind_of (Broadcast c) = 5
kind_of (P s) = 6
kind_of (V s) = 7
kind_of (Alert who) = 8
kind_of (TestAlert answer) = 9
kind_of (AlertEnqueue m c) = 10
kind_of (AlertReturn m c) = 11
kind_of (AlertRaise m c) = 12
kind_of (AlertPReturn s) = 13
kind_of (AlertPRaise s) = 14
kind_of (Fork who) = 15
kind_of End = 16
kind_of (Join who) = 17

-- Actions of different kinds have marks of different names, in which different letters are seen.
abbrev pub MarksDiffer : Type 0
MarksDiffer =
    (t u : ℕ) (a b : Action) → kind_of a ≢ kind_of b
    → ((look_of (marks_of t a).mark).letter ≢ (look_of (marks_of u b).mark).letter)
    × ((look_of (marks_of t a).mark).shown ≢ (look_of (marks_of u b).mark).shown)

-- what an event adds has this text in it
pub record HasText (whole part : List ℕ) : Type 0 where
  pub before : List ℕ
  pub after : List ℕ
  pub text : whole ≡ before ++ part ++ after

-- The mark of each event in view has its entry in the legend, however the trace goes on.
abbrev pub MarksAreExplained : Type 0
MarksAreExplained =
    (l : Layout) (v : DrawnRange) (past : List Event) (e : Event) (es : List Event) → in_view v (length past) ≡ true
    → (before : ℕ) × HasText (legend_text (shown_since l v (extended (e ∷ past) es))) (entry_text before (OfMark (marks e).mark))

-- A mark that the legend explains is that of an event in view.
abbrev pub DrawnAreExplained : Type 0
DrawnAreExplained =
    (l : Layout) (v : DrawnRange) (past : List Event) (m : Mark) → is_some (shown_since l v past (look_of m).letter) ≡ true
    → (after before : List Event) × (e : Event) × (past ≡ after ++ e ∷ before) × (in_view v (length before) ≡ true) × ((marks e).mark ≡ m)

-- the left edge of the column of the event n, and the upper edge of the row of the thread t on this page
abbrev pub left_of : DrawnRange → ℕ → ℕ
left_of v n = LEFT + COLUMN * ((n - v.first) % BAND)

abbrev pub upper_of : Page → ℕ → ℕ
upper_of p t = (row_in p.plan t).y

-- Each event in view has its mark, by the letter of its action, in its column of the band and in the row of its thread.
abbrev pub EventsAreMarked : Type 0
EventsAreMarked =
    (l : Layout) (v : DrawnRange) (p : Page) (k : Tracked) (n : ℕ) (e : Event) → in_view v n ≡ true
    → HasText (step_text l v p k n e) ((codes "<use href='#" ++ (look_of (marks e).mark).letter ∷ [])
    ++ place_text (left_of v n) (upper_of p e.thread.0 + MARK_TOP))

-- Where the lock order is wanted, the mark of each event in view by which a mutex is got in another is called by its place, as the rings call the marks of a cycle.
abbrev pub RingsAreNamed : Type 0
RingsAreNamed =
    (l : Layout) (v : DrawnRange) (p : Page) (k : Tracked) (es : List Event) (n : Edge) → v.ordered ≡ true
    → (f : Nests es n.outer.0 n.inner.0 n.thread.0 n.place) → in_view v n.place ≡ true
    → HasText (step_text l v p k n.place f.event) (with_number (codes "' id='e") n.place ++ (codes "'><title>" ++ line_of n.place f.event))

-- The bar that ends with the event at the place n, in the band b on the page p, as a tag that begins so: it goes from the event that took what the bar
-- is of, in the row of the thread that did, from the left edge of the column of the taking, or of the band's first, up to the gap before the next.
pub record IsBarTo (whole : List ℕ) (past : List Event) (name : List ℕ) (x : Bar) (p : Page) (b : Band) (n : ℕ) : Type 0 where
  pub o : Origin
  pub lane : ℕ
  pub since : IsSince x o past
  pub drawn : HasText whole (name
      ++ box_text (bar_x (up_to b n) o) (upper_of p o.thread.0 + lanes_top (row_in p.plan o.thread.0).kind + LANE * lane) (bar_width (up_to b n) o))
  pub from_taking : b.start ≤ o.place → bar_x (up_to b n) o ≡ LEFT + COLUMN * (o.place - b.start)
  pub from_before : o.place < b.start → bar_x (up_to b n) o ≡ LEFT
  pub ends : bar_x (up_to b n) o + bar_width (up_to b n) o ≡ LEFT + COLUMN * (n + 1 - b.start) - BAR_GAP

-- Each event of a run that gives a mutex back ends its bar, in the row of its thread, where the event is in view.
abbrev pub BarsAreDrawn : Type 0
BarsAreDrawn =
    (l : Layout) (v : DrawnRange) (p : Page) (es : List Event) (s : Spec) → IsRun l.version es s → (e : Event) → MayAct s e → (m : ℕ)
    → (marks e).mutex ≡ Ends m → in_view v (length es) ≡ true
    → (w : IsBarTo (step_text l v p (tracked_since (extended [] es)) (length es) e) (extended [] es) (with_number (codes "<rect class='m") m)
    (Mutex m) p (band_of l v p.plan (length es)) (length es)) × (w.o.thread.0 ≡ e.thread.0)

-- Each event that makes a semaphore available which wasn't ends its bar, in the row of the thread that took it, where the event is in view.
abbrev pub TakingsAreDrawn : Type 0
TakingsAreDrawn =
    (l : Layout) (v : DrawnRange) (p : Page) (es : List Event) (s : Spec) → IsRun l.version es s → (e : Event) → (k : ℕ) → (marks e).semaphore ≡ Ends k
    → s.avail k ≡ false → in_view v (length es) ≡ true
    → IsBarTo (step_text l v p (tracked_since (extended [] es)) (length es) e) (extended [] es) (codes "<rect class='e") (Semaphore k)
    p (band_of l v p.plan (length es)) (length es)

-- In version two a band begins with the rows of the threads that live, but for those without one by its plan, and with no others.
abbrev pub RowsStand : Type 0
RowsStand =
    (l : Layout) (v : DrawnRange) (p : Page) (es : List Event) (s : Spec) → l.version ≡ Two → IsRun l.version es s → column v (length es) ≡ 0
    → HasText (opening l v p (tracked_since (extended [] es)) (length es)) (each_below
    (λ t. if is_live (s.life t) && not (is_absent (row_in p.plan t).kind) then row_text (band_of l v p.plan (length es)) t else []) l.threads)

-- Each of the first forty threads that live and have no row by the plan is named where the band begins.
abbrev pub IdleAreNamed : Type 0
IdleAreNamed =
    (l : Layout) (v : DrawnRange) (p : Page) (k : Tracked) (n t : ℕ) → column v n ≡ 0 → t < l.threads → is_idle l.version p.plan k t ≡ true
    → count_below (is_idle l.version p.plan k) t < IDLE_NAMES → HasText (opening l v p k n) (with_number (codes " t") t)

-- a tag that begins so, over the row of the thread t from x to the right edge
abbrev pub row_tag : List ℕ → Page → ℕ → ℕ → List ℕ
row_tag name p x t =
    name ++ (with_number (codes "' height='") (row_in p.plan t).height ++ with_number (codes "' width='") (ROW_RIGHT - x)
    ++ place_text x (upper_of p t))

-- Each fork in view begins the row of the thread that it forks, in its own column, up to the right edge.
abbrev pub RowsBegin : Type 0
RowsBegin =
    (l : Layout) (v : DrawnRange) (p : Page) (k : Tracked) (n : ℕ) (e : Event) (who : ThreadId) → e.action ≡ Fork who → in_view v n ≡ true
    → HasText (step_text l v p k n e) (row_tag (codes "<rect class='r") p (left_of v n) who.0)

-- Each end in view cuts the row of its thread off after its own column, up to the right edge.
abbrev pub RowsEnd : Type 0
RowsEnd =
    (l : Layout) (v : DrawnRange) (p : Page) (k : Tracked) (n : ℕ) (e : Event) → e.action ≡ End → in_view v n ≡ true
    → HasText (step_text l v p k n e) (row_tag (codes "<rect class='z") p (left_of v n + COLUMN) e.thread.0)

-- Each join in view has an arrow from the end of the thread that it joins.
abbrev pub JoinsAreDrawn : Type 0
JoinsAreDrawn =
    (l : Layout) (v : DrawnRange) (p : Page) (es : List Event) (s : Spec) → IsRun l.version es s → (e : Event) → MayAct s e → (who : ThreadId)
    → e.action ≡ Join who → in_view v (length es) ≡ true
    → (o : Origin) × IsMadeBy l.version (λ z. is_ended (z.life who.0)) es s o
    × HasText (step_text l v p (tracked_since (extended [] es)) (length es) e)
    (arrow_text FromEnd (link (band_of l v p.plan (length es)) (length es) e.thread.0 o))

-- Each fork in view has, in its own column, an arrow into the row of the thread that it forks.
abbrev pub ForksAreDrawn : Type 0
ForksAreDrawn =
    (l : Layout) (v : DrawnRange) (p : Page) (k : Tracked) (n : ℕ) (e : Event) (who : ThreadId) → e.action ≡ Fork who → in_view v n ≡ true
    → HasText (step_text l v p k n e) (fork_text (band_of l v p.plan n) (origin_of n e) who.0)

-- Before the first event of each thread that was forked one event made the thread live, as it has since, and that event has, in view, this arrow.
abbrev pub BirthsAreDrawn : Type 0
BirthsAreDrawn =
    (l : Layout) (v : DrawnRange) (p : Page) (es : List Event) (s : Spec) → IsRun l.version es s → (e : Event) → MayAct s e → (o : Origin)
    → forked_by (tracked_since (extended [] es)) e.thread.0 ≡ Some o → in_view v o.place ≡ true
    → (m : IsMadeBy l.version (λ z. is_live (z.life e.thread.0)) es s o) × (HasEvent e.thread.0 0 (extended [] es) → ⊥)
    × HasText (step_text l v p (tracked_since (extended [] m.before)) (length m.before) m.cause)
    (fork_text (band_of l v p.plan o.place) o e.thread.0)

-- the action is a Signal or a Broadcast of the condition c
abbrev pub IsSignal : ℕ → Action → Type 0
IsSignal c (Signal d left) = d.0 ≡ c
IsSignal c (Broadcast d) = d.0 ≡ c
IsSignal c _ = ⊥

-- Each thread that a Signal or a Broadcast in view takes out of its condition has an arrow into its row, in the column of that event.
abbrev pub SignalsAreDrawn : Type 0
SignalsAreDrawn =
    (l : Layout) (v : DrawnRange) (p : Page) (es : List Event) (s : Spec) → IsRun l.version es s → (e : Event) → (c u : ℕ) → IsSignal c e.action
    → s.members c u ≡ true → (acted e.thread.0 s e.action).members c u ≡ false → u < l.threads → in_view v (length es) ≡ true
    → HasText (step_text l v p (tracked_since (extended [] es)) (length es) e)
    (wake_text (band_of l v p.plan (length es)) (origin_of (length es) e) u)

-- Each event in view that ends a wait, which another event let end, has the parts of this wait: in the condition up to that event, which made hold what its thread
-- waited for, and let go on from there.
abbrev pub WaitsAreDrawn : Type 0
WaitsAreDrawn =
    (l : Layout) (v : DrawnRange) (p : Page) (es : List Event) (s : Spec) → IsRun l.version es s → (e : Event) → MayAct s e → (t : ℕ) (o by : Origin)
    → (marks e).wait ≡ Ends t → (tracked_since (extended [] es)).waits t ≡ Some o → let_on_by (tracked_since (extended [] es)) (marks e).waker ≡ Some by
    → in_view v (length es) ≡ true → IsMadeBy l.version (awaited_by e.thread.0 e.action) es s by
    × HasText (step_text l v p (tracked_since (extended [] es)) (length es) e)
    (parts_text (up_to (band_of l v p.plan (length es)) (length es)) o (Some by))

-- The last lines of a picture show the longest hold of each mutex: by whom, how many events, from which event to which, or that there is none.
abbrev pub HoldsAreReported : Type 0
HoldsAreReported =
    (l : Layout) (v : DrawnRange) (p : Page) (past : List Event) (shown : ℕ → Option Origin) (n high : ℕ) (words : List ℕ) (m : ℕ) → m < l.mutexes
    → MatchOption (longest_in (tracked_since past) n m)
    (HasText (end_text l v (record { board = tracked_since past; shown = shown; page = p }) n high words) ((with_number (codes "'><title>m") m ++ codes "</title>") ++ codes "never held"))
    (λ h. HasText (end_text l v (record { board = tracked_since past; shown = shown; page = p }) n high words) ((with_number (codes "'><title>m") m ++ codes "</title>")
    ++ (with_number (codes "longest: t") h.since.thread.0 ++ with_number (codes ", events: ") (h.last - h.since.place)
    ++ with_number (codes ", ") h.since.place
    ++ (if h.ended then with_number (codes " to ") h.last else codes " on"))))
