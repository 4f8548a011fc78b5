-- What an explanation says of the state before the event is so.
use Rattle.std.specs.Prelude.{◌≡◌, ◌≢◌, ℕ, ◌↔◌, ◌==◌, Bool, true, false, eqb, List, [], Some, None, MatchOption, not}
use Rattle.std.specs.declared.option.Option.{Option}
use mathlib.Core.Option.{none, some}
use Rattle.larch_actions.specs.declared.event.Version.{Version}
use Rattle.larch_actions.specs.declared.event.Life.TheVariants.{Live}
use Rattle.larch_actions.specs.declared.event.Event.{Event}
use Rattle.larch_actions.specs.declared.event.Pending.{Pending}
use Rattle.larch_actions.specs.declared.event.Pending.TheVariants.{Nothing, Waiting, AlertWaiting}
use Rattle.larch_actions.specs.Actions.{Spec, IsRun}
use Rattle.trace_board.specs.declared.history.Origin.{Origin}
use Rattle.trace_board.specs.declared.causes.Cause.{Cause}
use Rattle.trace_board.specs.declared.causes.Cause.TheVariants.{Never, Awaited, By}
use Rattle.trace_board.specs.declared.rows.Bar.TheVariants.{Mutex}
use Rattle.trace_board.specs.Tracked.{Tracked, tracked_since, extended, life_in}
use Rattle.trace_board.specs.Laws.{IsSince, IsMadeBy, is_live, is_ended}

-- what is said of a thread's wait: that it is in none; in which condition it stands; that it was taken out and is in none
abbrev pub WaitsSo : Spec → ℕ → Cause → Type 0
WaitsSo s t Never = s.pending t ≡ Nothing
WaitsSo s t (Awaited c) = (s.pending t ≢ Nothing) × (s.members c t ≡ true)
WaitsSo s t (By o) = (s.pending t ≢ Nothing) × ((c : ℕ) → s.members c t ≡ false)

-- the thread has begun a wait on this condition
abbrev pub IsWaitOn : ℕ → Pending → Type 0
IsWaitOn c Nothing = ⊥
IsWaitOn c (Waiting m d) = c ≡ d.0
IsWaitOn c (AlertWaiting m d) = c ≡ d.0

-- whether the thread is named among those that stand in the condition
abbrev pub is_named : ℕ → Cause → Bool
is_named c Never = false
is_named c (Awaited d) = eqb c d
is_named c (By o) = false

-- what is said of a semaphore
abbrev pub OpenSo : Spec → ℕ → Cause → Type 0
OpenSo s n Never = s.avail n ≡ true
OpenSo s n (Awaited k) = s.avail n ≡ false
OpenSo s n (By o) = s.avail n ≡ true

-- what is said of an alert
abbrev pub AlertedSo : Spec → ℕ → Cause → Type 0
AlertedSo s t Never = s.alerts t ≡ false
AlertedSo s t (Awaited k) = s.alerts t ≡ false
AlertedSo s t (By o) = s.alerts t ≡ true

-- whether the mutex is named among those that the thread holds
abbrev pub is_listed : ℕ → Option Origin → Bool
is_listed t None = false
is_listed t (Some o) = o.thread.0 == t

-- What is kept of the events of a run says what is so in the state that they lead to.
pub record AreSo (version : Version) (k : Tracked) (s : Spec) (es : List Event) : Type 0 where
  -- who holds a mutex, and by which event it was taken, since when no event took it or gave it back
  pub held : (m : ℕ) → MatchOption (k.held m) (s.holder m ≡ none) (λ o. (s.holder m ≡ some o.thread.0) × IsSince (Mutex m) o (extended [] es))
  -- the mutexes named are those that the thread holds
  pub listed : (m t : ℕ) → (is_listed t (k.held m) ≡ true) ↔ (s.holder m ≡ some t)
  -- whether a thread is unborn, lives or has ended
  pub lives : (t : ℕ) → s.life t ≡ life_in version k t
  pub waits : (t : ℕ) → WaitsSo s t (k.stands t)
  -- the threads named are those that stand in the condition
  pub stands : (c t : ℕ) → s.members c t ≡ is_named c (k.stands t)
  pub opens : (n : ℕ) → OpenSo s n (k.opens n)
  pub alerts : (t : ℕ) → AlertedSo s t (k.alerts t)
  -- by which event a thread was taken out of its condition, a semaphore became available, a thread became alerted, was forked and lives, has ended; and it
  -- has been so since
  pub taken_out_by : (t c : ℕ) (o : Origin) → k.stands t ≡ By o → IsWaitOn c (s.pending t)
      → IsMadeBy version (λ z. not (z.members c t)) es s o
  pub opened_by : (n : ℕ) (o : Origin) → k.opens n ≡ By o → IsMadeBy version (λ z. z.avail n) es s o
  pub alerted_by : (t : ℕ) (o : Origin) → k.alerts t ≡ By o → IsMadeBy version (λ z. z.alerts t) es s o
  pub forked_by : (t : ℕ) (o : Origin) → k.born t ≡ Some o → s.life t ≡ Live → IsMadeBy version (λ z. is_live (z.life t)) es s o
  pub ended_by : (t : ℕ) (o : Origin) → k.over t ≡ Some o → IsMadeBy version (λ z. is_ended (z.life t)) es s o

abbrev pub FactsAreSo : Type 0
FactsAreSo = (version : Version) (es : List Event) (s : Spec) → IsRun version es s → AreSo version (tracked_since (extended [] es)) s es
