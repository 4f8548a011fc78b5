-- Circles on the way to the cycle that is reported.
use Rattle.std.specs.Prelude.{◌≡◌, ℕ, ◌<◌, ◌≤◌, ◌&&◌, true, false, List, [], ◌∷◌, length}
use Rattle.larch_actions.specs.Sets.{mem}
use Rattle.lock_order.specs.declared.mutex_set.MutexSet.{MutexSet}
use Rattle.lock_order.specs.declared.answer.Edge.{Edge}
use Rattle.lock_order.specs.declared.lock_graph.LockGraph.{LockGraph}
use Rattle.lock_order.specs.Sets.{in_mutexes}
use Rattle.lock_order.specs.Order.{first_or, Ring, AreDistinct, IsCycle}
use Rattle.lock_order.specs.Kept.{Before, stands, first_thread, first_place}

-- no other numbers than those of mutexes stand before others
abbrev pub AreLow : LockGraph → Type 0
AreLow k = (m n : ℕ) → Before k m n → m < 64

-- before the mutex stands none of the set
abbrev pub IsForemost : LockGraph → MutexSet → ℕ → Type 0
IsForemost k set n = (m : ℕ) → (stands k m n && in_mutexes set m) ≡ false

-- before each of the set stands one of the set
abbrev pub IsCore : LockGraph → MutexSet → Type 0
IsCore k core = (n : ℕ) → n < 64 → in_mutexes core n ≡ true → (m : ℕ) × (in_mutexes core m ≡ true) × Before k m n

-- all mutexes of each cycle are in the set
abbrev pub HoldsCycles : LockGraph → MutexSet → Type 0
HoldsCycles k set = (ms : List ℕ) → IsCycle (Before k) ms → (m : ℕ) → mem m ms ≡ true → in_mutexes set m ≡ true

-- at least one mutex, no mutex twice, each before the next, and the last before the first
pub record IsCircle (k : LockGraph) (ms : List ℕ) : Type 0 where
  pub some : 0 < length ms
  pub distinct : AreDistinct ms
  pub low : (m : ℕ) → mem m ms ≡ true → m < 64
  pub ring : Ring (Before k) ms

-- the first edge of the two
abbrev pub first_of : LockGraph → ℕ → ℕ → Edge
first_of k m n = record {
  outer = record { 0 = m };
  inner = record { 0 = n };
  thread = record { 0 = first_thread k m n };
  place = first_place k m n;
}

-- the first edge of each and the next, and of the last and `back`
abbrev pub links : LockGraph → List ℕ → ℕ → List Edge
links k [] back = []
links k (m ∷ ms) back = first_of k m (first_or back ms) ∷ links k ms back

-- no number of the list is less
abbrev pub IsLeast : ℕ → List ℕ → Type 0
IsLeast a xs = (m : ℕ) → mem m xs ≡ true → a ≤ m
