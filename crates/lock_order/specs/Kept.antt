-- What is kept of the events so far.
use Rattle.std.specs.Prelude.{◌≡◌, ℕ, ◌+◌, ◌*◌, ◌<◌, ◌≤◌, ◌||◌, Bool, true, false, cond, eqb, List, [], length, IfSome}
use mathlib.Core.Option.{Option, none, some}
use Rattle.std.specs.declared.option.Option.{Option as Known}
use Rattle.larch_actions.specs.declared.event.Version.{Version}
use Rattle.larch_actions.specs.declared.event.Event.{Event}
use Rattle.larch_actions.specs.declared.event.Action.{Action}
use Rattle.larch_actions.specs.declared.event.Action.TheVariants.{Release, Enqueue, AlertEnqueue}
use Rattle.larch_actions.specs.declared.event.Layout.{Layout}
use Rattle.larch_actions.specs.Actions.{Spec, IsRun, at_first}
use Rattle.larch_actions.specs.State.{shown_at}
use Rattle.lock_order.specs.declared.mutex_set.MutexSet.{MutexSet}
use Rattle.lock_order.specs.declared.lock_graph.First.{First}
use Rattle.lock_order.specs.declared.lock_graph.LockGraph.{LockGraph}
use Rattle.lock_order.specs.Sets.{in_mutexes}
use Rattle.lock_order.specs.Order.{got, Nests, HasCycle, ReportsCycle}
use Rattle.trace_check.specs.declared.checker.Verdict.{Verdict}
use Rattle.trace_check.specs.declared.checker.Verdict.TheVariants.{Legal}
use Rattle.lock_order.specs.Answers.{IsLegalTrace}
use Rattle.lock_order.specs.declared.answer.OrderAnswer.{OrderAnswer}
use Rattle.lock_order.specs.declared.answer.OrderAnswer.TheVariants.{NoCycle, Found}

-- the mutex that the action gives back
abbrev pub given : Action → Option ℕ
given (Release m) = some m.0
given (Enqueue m c) = some m.0
given (AlertEnqueue m c) = some m.0
given _ = none

-- the event's thread and the mutex that it gets or gives back have a place in the tables
pub record HasPlace (e : Event) : Type 0 where
  pub thread : e.thread.0 < 256
  pub gets : (m : ℕ) → got e.action ≡ some m → m < 64
  pub gives : (m : ℕ) → given e.action ≡ some m → m < 64

abbrev pub is_thread : Option ℕ → ℕ → Bool
is_thread none t = false
is_thread (some u) t = eqb u t

-- in that state the thread t holds m
abbrev pub holds : Spec → ℕ → ℕ → Bool
holds now t m = is_thread (now.holder m) t

-- the thread t is kept as one that holds m
abbrev pub has_held : LockGraph → ℕ → ℕ → Bool
has_held k t m = shown_at in_mutexes (λ _. false) k.held t m

-- it is kept that m stands before n
abbrev pub stands : LockGraph → ℕ → ℕ → Bool
stands k m n = shown_at in_mutexes (λ _. false) k.outers n m

-- the event that is kept for m before n: its thread, and its place
abbrev pub first_thread : LockGraph → ℕ → ℕ → ℕ
first_thread k m n = shown_at (λ (f : First). f.thread.0) 0 k.firsts (n * 64 + m)

abbrev pub first_place : LockGraph → ℕ → ℕ → ℕ
first_place k m n = shown_at (λ (f : First). f.place) 0 k.firsts (n * 64 + m)

abbrev pub Before : LockGraph → ℕ → ℕ → Type 0
Before k m n = stands k m n ≡ true

-- What is kept is what the events so far, which lead to that state, nest.
pub record IsKept (es : List Event) (now : Spec) (k : LockGraph) : Type 0 where
  pub version : Version
  pub run : IsRun version es now
  pub held : (t m : ℕ) → has_held k t m ≡ holds now t m
  pub held_low : (t m : ℕ) → has_held k t m ≡ true → m < 64
  pub low : (m n : ℕ) → Before k m n → m < 64
  pub edge : (m n : ℕ) → Before k m n → Nests es m n (first_thread k m n) (first_place k m n)
  pub least : (m n thread place : ℕ) → Nests es m n thread place → Before k m n × (first_place k m n ≤ place)

-- the thread has got the mutex n, at that place
pub record HasGot (old : LockGraph) (t n place : ℕ) (new : LockGraph) : Type 0 where
  pub held : (u m : ℕ) → has_held new u m ≡ cond (eqb t u) (cond (eqb n m) true (has_held old u m)) (has_held old u m)
  pub standing : (m k : ℕ) → stands new m k ≡ cond (eqb n k) (stands old m k || has_held old t m) (stands old m k)
  -- what was kept stays, and the new edges are by that thread at that place
  pub stays : (m k : ℕ) → m < 64 → Before old m k
      → (first_thread new m k ≡ first_thread old m k) × (first_place new m k ≡ first_place old m k)
  pub fresh : (m : ℕ) → stands old m n ≡ false → has_held old t m ≡ true
      → (first_thread new m n ≡ t) × (first_place new m n ≡ place)

-- these mutexes have come to stand before n, by that thread at that place
pub record HasEdge (old : LockGraph) (set : MutexSet) (t n place : ℕ) (new : LockGraph) : Type 0 where
  pub held : new.held ≡ old.held
  pub standing : (m k : ℕ) → stands new m k ≡ cond (eqb n k) (stands old m k || in_mutexes set m) (stands old m k)
  pub stays : (m k : ℕ) → m < 64 → (n ≡ k → in_mutexes set m ≡ false)
      → (first_thread new m k ≡ first_thread old m k) × (first_place new m k ≡ first_place old m k)
  pub fresh : (m : ℕ) → in_mutexes set m ≡ true → (first_thread new m n ≡ t) × (first_place new m n ≡ place)

-- the thread has given the mutex n back
pub record HasGiven (old : LockGraph) (t n : ℕ) (new : LockGraph) : Type 0 where
  pub held : (u m : ℕ) → has_held new u m ≡ cond (eqb t u) (cond (eqb n m) false (has_held old u m)) (has_held old u m)
  pub outers : new.outers ≡ old.outers
  pub firsts : new.firsts ≡ old.firsts

-- the answer on a legal trace of these events
abbrev pub IsOrderOf : List Event → OrderAnswer → Type 0
IsOrderOf es (NoCycle count) = (count ≡ length es) × ¬ HasCycle es
IsOrderOf es (Found cycle) = ReportsCycle es cycle
IsOrderOf es _ = ⊥

-- of a legal trace it is kept what its events nest
abbrev pub IsNoted : ℕ → Known (List ℕ) → Verdict → LockGraph → Type 0
IsNoted budget left (Legal s) k =
    (es : List Event) × (now : Spec) × IsKept es now k × (s.events ≡ length es) × IfSome left (λ bytes. IsLegalTrace budget bytes es)
IsNoted budget left _ k = Unit {0}

-- Where that is wanted, and nothing was kept at first, it is kept what these events of a trace with that layout nest.
abbrev pub KeepsEdges : LockGraph → Layout → List Event → Bool → LockGraph → Type 0
KeepsEdges first l es on k =
    ((v : Version) → IsKept [] (at_first v) first) → on ≡ true → (s : Spec) → IsRun l.version es s → IsKept es s k
