-- What is kept says about the events and of the state: what a bar, an arrow and a longest hold say.
use Rattle.std.specs.Prelude.{◌≡◌, ◌≢◌, ℕ, ◌-◌, ◌≤◌, ◌⊎◌, Bool, true, false, not, List, [], ◌∷◌, ◌++◌, length, Some, MatchOption}
use Rattle.std.specs.List.{AllByRecursion}
use mathlib.Core.Option.{none, some}
use Rattle.larch_actions.specs.declared.event.Event.{Event}
use Rattle.larch_actions.specs.declared.event.Action.{Action}
use Rattle.larch_actions.specs.declared.event.Action.TheVariants.{Resume, AlertReturn, AlertRaise, P, TestAlert, AlertPReturn, AlertPRaise, Join}
use Rattle.larch_actions.specs.declared.event.Version.{Version}
use Rattle.larch_actions.specs.declared.event.Life.{Life}
use Rattle.larch_actions.specs.declared.event.Life.TheVariants.{Live, Ended}
use Rattle.larch_actions.specs.Actions.{Spec, IsRun, Leads, Acts, MayAct, acted}
use Rattle.trace_board.specs.declared.history.Origin.{Origin}
use Rattle.trace_board.specs.declared.history.Change.{Change}
use Rattle.trace_board.specs.declared.history.Change.TheVariants.{Begins, Ends}
use Rattle.trace_board.specs.declared.holds.Hold.{Hold}
use Rattle.trace_board.specs.declared.rows.Bar.{Bar}
use Rattle.trace_board.specs.declared.rows.Bar.TheVariants.{Mutex, Semaphore}
use Rattle.trace_board.specs.declared.rows.Row.{Row}
use Rattle.trace_board.specs.Marks.{marks}
use Rattle.trace_board.specs.History.{origin_of}
use Rattle.trace_board.specs.Rows.{lane_in}
use Rattle.trace_board.specs.Holds.{held_for}
use Rattle.trace_board.specs.Tracked.{Tracked, tracked_after, tracked_since, extended, let_on_by, longest_in, has_run, forked_by, life_in}

-- the number of what a bar is of, and whether an event takes it or gives it back
abbrev pub number_of : Bar → ℕ
number_of (Mutex m) = m
number_of (Semaphore s) = s

abbrev pub turn_of : Bar → Event → Change
turn_of (Mutex m) e = (marks e).mutex
turn_of (Semaphore s) e = (marks e).semaphore

abbrev pub IsLeft : Bar → Event → Type 0
IsLeft b e = (turn_of b e ≢ Begins (number_of b)) × (turn_of b e ≢ Ends (number_of b))

-- the event from which a bar goes: the one at this place took what the bar is of, and no later one took it or gave it back
pub record IsSince (b : Bar) (o : Origin) (past : List Event) : Type 0 where
  pub later : List Event
  pub taking : Event
  pub earlier : List Event
  pub split : past ≡ later ++ taking ∷ earlier
  pub place : o.place ≡ length earlier
  pub by : taking.thread ≡ o.thread
  pub takes : turn_of b taking ≡ Begins (number_of b)
  pub kept : AllByRecursion (IsLeft b) later

-- After each run the state has a mutex held by a thread exactly where the picture has a bar of it under way in that thread's row,
-- and this bar goes from the event that took the mutex, since when no event took it or gave it back.
abbrev pub BarsAreHolds : Type 0
BarsAreHolds =
    (version : Version) (es : List Event) (s : Spec) → IsRun version es s → (m : ℕ)
    → MatchOption ((tracked_since (extended [] es)).held m) (s.holder m ≡ none)
    (λ o. (s.holder m ≡ some o.thread.0) × IsSince (Mutex m) o (extended [] es))

-- After each run a semaphore isn't available exactly where a bar of it is under way, and this bar goes from the event that took the semaphore, in the
-- row of the thread that did so, since when no event took it or made it available.
abbrev pub BarsAreTakings : Type 0
BarsAreTakings =
    (version : Version) (es : List Event) (s : Spec) → IsRun version es s → (n : ℕ)
    → MatchOption ((tracked_since (extended [] es)).taken n) (s.avail n ≡ true)
    (λ o. (s.avail n ≡ false) × IsSince (Semaphore n) o (extended [] es))

-- Two bars have one lane of a row only where that is the last, and a bar keeps its lane while others begin and end.
abbrev pub LanesAreOwn : Type 0
LanesAreOwn =
    ((r : Row) (a b : Bar) → a ≢ b → lane_in r a ≡ lane_in r b → lane_in r a ≡ 3)
    × ((n : ℕ) (e : Event) (k : Tracked) (b : Bar) (u : ℕ) → IsLeft b e → lane_in ((tracked_after n e k).rows u) b ≡ lane_in (k.rows u) b)

-- a hold of the mutex m that an event gave back: the last of it
pub record IsGivenBack (m : ℕ) (h : Hold) (past : List Event) : Type 0 where
  pub later : List Event
  pub giving : Event
  pub earlier : List Event
  pub split : past ≡ later ++ giving ∷ earlier
  pub gives : (marks giving).mutex ≡ Ends m
  pub since : IsSince (Mutex m) h.since earlier
  pub last : h.last ≡ length earlier

-- a hold of the mutex m: it was given back, or is under way, up to the event before n
abbrev pub IsHold : ℕ → ℕ → Hold → List Event → Type 0
IsHold n m h past = ((h.ended ≡ true) × IsGivenBack m h past) ⊎ ((h.ended ≡ false) × IsSince (Mutex m) h.since past × (h.last ≡ n - 1))

-- What is shown as the longest hold of a mutex is one of its holds, and none is longer; where nothing is shown there is none.
abbrev pub HoldsAreLongest : Type 0
HoldsAreLongest =
    (past : List Event) (n m : ℕ) → MatchOption (longest_in (tracked_since past) n m) ((h : Hold) → IsHold n m h past → ⊥)
    (λ h. IsHold n m h past × ((j : Hold) → IsHold n m j past → held_for j ≤ held_for h))

-- an event of the thread t, from the event `start` on
pub record HasEvent (t start : ℕ) (past : List Event) : Type 0 where
  pub later : List Event
  pub event : Event
  pub earlier : List Event
  pub split : past ≡ later ++ event ∷ earlier
  pub by : event.thread.0 ≡ t
  pub from : start ≤ length earlier

-- A thread is shown to have run since an event exactly where one of the events from that one on is its own.
abbrev pub RunsAreSeen : Type 0
RunsAreSeen =
    (past : List Event) (start t : ℕ) → (has_run (tracked_since past) start t ≡ true → HasEvent t start past)
    × (HasEvent t start past → has_run (tracked_since past) start t ≡ true)

-- After each run a thread is unborn, lives or has ended as the picture has its row: none yet, one from its fork on where one is kept, and up to the event
-- that is kept as its end.
abbrev pub RowsAreLives : Type 0
RowsAreLives =
    (version : Version) (es : List Event) (s : Spec) → IsRun version es s → (t : ℕ)
    → s.life t ≡ life_in version (tracked_since (extended [] es)) t

abbrev pub is_live : Life → Bool
is_live Live = true
is_live _ = false

abbrev pub is_ended : Life → Bool
is_ended Ended = true
is_ended _ = false

-- what an action of the thread t waits for, but for a mutex: to be out of its condition, the semaphore, to be alerted, or the end of the thread that it joins
abbrev pub awaited_by : ℕ → Action → Spec → Bool
awaited_by t (Resume m c) = λ s. not (s.members c.0 t)
awaited_by t (AlertReturn m c) = λ s. not (s.members c.0 t)
awaited_by t (AlertRaise m c) = λ s. s.alerts t
awaited_by t (P n) = λ s. s.avail n.0
awaited_by t (AlertPReturn n) = λ s. s.avail n.0
awaited_by t (AlertPRaise n) = λ s. s.alerts t
awaited_by t (TestAlert answer) = λ s. s.alerts t
awaited_by t (Join who) = λ s. is_ended (s.life who.0)
awaited_by t _ = λ s. false

-- the test holds in this state and after each of these events
abbrev pub HoldsAlong : (Spec → Bool) → Spec → List Event → Type 0
HoldsAlong test s [] = test s ≡ true
HoldsAlong test s (e ∷ es) = (test s ≡ true) × HoldsAlong test (acted e.thread.0 s e.action) es

-- of the events of this run one made the test hold, and it has held since
pub record IsMadeBy (version : Version) (test : Spec → Bool) (es : List Event) (s : Spec) (o : Origin) : Type 0 where
  pub before : List Event
  pub cause : Event
  pub since : List Event
  pub old : Spec
  pub new : Spec
  pub split : es ≡ before ++ cause ∷ since
  pub is : o ≡ origin_of (length before) cause
  pub ran : IsRun version before old
  pub acts : Acts old cause new
  pub leads : Leads new since s
  pub was : test old ≡ false
  pub holds : HoldsAlong test new since

-- Where an event may follow a run, the picture has its thread let go on by an event of the run only where that event made hold what the
-- event waits for, which has held since.
abbrev pub ArrowsAreCauses : Type 0
ArrowsAreCauses =
    (version : Version) (es : List Event) (s : Spec) → IsRun version es s → (e : Event) → MayAct s e → (o : Origin)
    → let_on_by (tracked_since (extended [] es)) (marks e).waker ≡ Some o
    → IsMadeBy version (awaited_by e.thread.0 e.action) es s o

-- Where an event may follow a run, the picture has its thread begin to go on by an event of the run only where it is its thread's first, and that event made
-- the thread live, as it has since.
abbrev pub ForksAreBirths : Type 0
ForksAreBirths =
    (version : Version) (es : List Event) (s : Spec) → IsRun version es s → (e : Event) → MayAct s e → (o : Origin)
    → forked_by (tracked_since (extended [] es)) e.thread.0 ≡ Some o
    → IsMadeBy version (λ z. is_live (z.life e.thread.0)) es s o × (HasEvent e.thread.0 0 (extended [] es) → ⊥)
