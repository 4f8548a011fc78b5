-- The state as lists, and the state of the specification that they show.
use Rattle.std.specs.Prelude.{◌≡◌, ℕ, zero, suc, ◌+◌, Bool, true, false, cond, List, [], ◌∷◌, Some, None, Result, MatchResult}
use Rattle.std.specs.declared.option.Option.{Option}
use mathlib.Core.Option.{none, some, Option as Optional}
use Rattle.larch_actions.specs.declared.event.Layout.{Layout}
use Rattle.larch_actions.specs.declared.event.Event.{Event}
use Rattle.larch_actions.specs.declared.event.ThreadId.{ThreadId}
use Rattle.larch_actions.specs.declared.event.Broken.{Broken}
use Rattle.larch_actions.specs.declared.event.Version.{Version}
use Rattle.larch_actions.specs.declared.event.Version.TheVariants.{One, Two}
use Rattle.larch_actions.specs.declared.event.Life.{Life}
use Rattle.larch_actions.specs.declared.event.Life.TheVariants.{Unborn, Live, Ended}
use Rattle.larch_actions.specs.declared.event.Pending.{Pending}
use Rattle.larch_actions.specs.declared.state.ThreadState.{ThreadState}
use Rattle.larch_actions.specs.declared.state.ThreadState.TheVariants as thread
use Rattle.larch_actions.specs.declared.event.Pending.TheVariants.{Nothing, Waiting, AlertWaiting}
use Rattle.larch_actions.specs.declared.thread_set.ThreadSet.{ThreadSet}
use Rattle.larch_actions.specs.Sets.{in_set}
use Rattle.larch_actions.specs.Actions.{Spec, Acts, Fails}

-- what is kept of each mutex, condition, semaphore and thread
pub record Moment : Type 0 where
  pub layout : Layout
  pub holders : List (Option ThreadId)
  pub members : List ThreadSet
  pub available : List Bool
  pub alerts : ThreadSet
  pub threads : List ThreadState

-- the element at the place, as view shows it, and d past the end
abbrev pub shown_at : {X Y : Type 0} → (X → Y) → Y → List X → ℕ → Y
shown_at view d [] i = d
shown_at view d (x ∷ xs) zero = view x
shown_at view d (x ∷ xs) (suc i) = shown_at view d xs i

-- the number of the thread, if there is one
abbrev pub holder_of : Option ThreadId → Optional ℕ
holder_of None = none
holder_of (Some t) = some t.0

-- what a thread has begun, and its life
abbrev pub pending_of : ThreadState → Pending
pending_of (thread.Waiting m c) = Waiting m c
pending_of (thread.AlertWaiting m c) = AlertWaiting m c
pending_of _ = Nothing

abbrev pub life_of : ThreadState → Life
life_of thread.Unborn = Unborn
life_of thread.Ended = Ended
life_of _ = Live

-- a thread that lives and has begun this
abbrev pub begun : Pending → ThreadState
begun Nothing = thread.Running
begun (Waiting m c) = thread.Waiting m c
begun (AlertWaiting m c) = thread.AlertWaiting m c

-- the life of a thread that is past all that are kept
abbrev pub life_beyond : Version → Life
life_beyond One = Live
life_beyond Two = Unborn

-- the state of the specification that the lists show
abbrev pub spec_of : Moment → Spec
spec_of m = record {
  holder = shown_at holder_of none m.holders;
  members = shown_at in_set (λ _. false) m.members;
  avail = shown_at (λ b. b) true m.available;
  alerts = in_set m.alerts;
  pending = shown_at pending_of Nothing m.threads;
  life = shown_at life_of (life_beyond m.layout.version) m.threads;
}

-- the thread t lives and has begun this
abbrev pub HasBegun : Spec → ℕ → Pending → Type 0
HasBegun s t what = (s.life t ≡ Live) × (s.pending t ≡ what)

-- the step of the event was made, or the event fails this clause first and the state is as before
abbrev pub Answers : {X : Type 0} → Moment → Moment → Event → Result X Broken → Type 0
Answers old new e result =
    MatchResult result (λ _. Acts (spec_of old) e (spec_of new) × (new.layout ≡ old.layout))
    (λ why. Fails (spec_of old) e why × (new ≡ old))

-- how many of the numbers below n pass the test
abbrev pub count_below : (ℕ → Bool) → ℕ → ℕ
count_below test zero = 0
count_below test (suc n) = cond (test n) 1 0 + count_below test n

abbrev pub is_held : Optional ℕ → Bool
is_held none = false
is_held (some t) = true

abbrev pub is_begun : Pending → Bool
is_begun Nothing = false
is_begun (Waiting m c) = true
is_begun (AlertWaiting m c) = true

-- the mutexes held, the threads between the two parts of a wait, the threads alerted
abbrev pub held : Layout → Spec → ℕ
held l s = count_below (λ m. is_held (s.holder m)) l.mutexes

abbrev pub waiting : Layout → Spec → ℕ
waiting l s = count_below (λ t. is_begun (s.pending t)) l.threads

abbrev pub alerted : Layout → Spec → ℕ
alerted l s = count_below s.alerts l.threads
