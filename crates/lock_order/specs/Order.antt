-- The lock order of a list of events, and its cycles.
use Rattle.std.specs.Prelude.{◌≡◌, ℕ, ◌≤◌, false, List, [], ◌∷◌, ◌++◌, length, map}
use Rattle.std.specs.List.{AllByRecursion}
use mathlib.Core.Option.{Option, none, some}
use Rattle.larch_actions.specs.declared.event.Version.{Version}
use Rattle.larch_actions.specs.declared.event.Event.{Event}
use Rattle.larch_actions.specs.declared.event.Action.{Action}
use Rattle.larch_actions.specs.declared.event.Action.TheVariants.{Acquire, Resume, AlertReturn, AlertRaise}
use Rattle.larch_actions.specs.Sets.{mem}
use Rattle.larch_actions.specs.Actions.{Spec, IsRun}
use Rattle.lock_order.specs.declared.answer.Edge.{Edge}

-- the mutex that the action gets
abbrev pub got : Action → Option ℕ
got (Acquire m) = some m.0
got (Resume m c) = some m.0
got (AlertReturn m c) = some m.0
got (AlertRaise m c) = some m.0
got _ = none

-- The event at this place is one by which the thread gets the inner mutex while it holds the outer one, in the state before it. Who
-- holds a mutex after some events is the same in each version in which they are a run.
pub record Nests (es : List Event) (outer inner thread place : ℕ) : Type 0 where
  pub before : List Event
  pub event : Event
  pub after : List Event
  pub version : Version
  pub state : Spec
  pub split : es ≡ before ++ event ∷ after
  pub run : IsRun version before state
  pub counted : place ≡ length before
  pub actor : event.thread.0 ≡ thread
  pub gets : got event.action ≡ some inner
  pub holds : state.holder outer ≡ some thread

-- somewhere in the list, n is got while m is held
abbrev pub StandsBefore : List Event → ℕ → ℕ → Type 0
StandsBefore es m n = (thread : ℕ) × (place : ℕ) × Nests es m n thread place

-- the first of the list, or else d
abbrev pub first_or : {A : Type 0} → A → List A → A
first_or d [] = d
first_or d (x ∷ xs) = x

-- each of the list is R to the next, and the last to `back`
abbrev pub Chain : {A : Type 0} → (A → A → Type 0) → List A → A → Type 0
Chain R [] back = Unit {0}
Chain R (x ∷ xs) back = R x (first_or back xs) × Chain R xs back

-- each of the list is R to the next, and the last to the first
abbrev pub Ring : {A : Type 0} → (A → A → Type 0) → List A → Type 0
Ring R [] = Unit {0}
Ring R (x ∷ xs) = Chain R (x ∷ xs) x

-- no number twice
abbrev pub AreDistinct : List ℕ → Type 0
AreDistinct [] = Unit {0}
AreDistinct (x ∷ xs) = (mem x xs ≡ false) × AreDistinct xs

-- at least two mutexes, no mutex twice, each before the next, and the last before the first
pub record IsCycle (Before : ℕ → ℕ → Type 0) (ms : List ℕ) : Type 0 where
  pub two : 2 ≤ length ms
  pub distinct : AreDistinct ms
  pub ring : Ring Before ms

abbrev pub HasCycle : List Event → Type 0
HasCycle es = (ms : List ℕ) × IsCycle (StandsBefore es) ms

-- the two mutexes nest at that place, by that thread, and at no place before it
pub record IsFirst (es : List Event) (n : Edge) : Type 0 where
  pub nests : Nests es n.outer.0 n.inner.0 n.thread.0 n.place
  pub least : (thread place : ℕ) → Nests es n.outer.0 n.inner.0 thread place → n.place ≤ place

-- the outer mutexes, in order
abbrev pub outers : List Edge → List ℕ
outers ns = map (λ (n : Edge). n.outer.0) ns

-- The list reports a cycle: each with the first place of its two mutexes, its inner the outer of the next, and the least outer first.
pub record ReportsCycle (es : List Event) (ns : List Edge) : Type 0 where
  pub two : 2 ≤ length ns
  pub distinct : AreDistinct (outers ns)
  pub linked : Ring (λ (n k : Edge). n.inner.0 ≡ k.outer.0) ns
  pub firsts : AllByRecursion (IsFirst es) ns
  pub least : AllByRecursion (λ m. first_or 0 (outers ns) ≤ m) (outers ns)
