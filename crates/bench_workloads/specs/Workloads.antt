-- What a thread has done in a workload.
use Rattle.std.specs.Prelude.{◌≡◌, ◌≢◌, ◌≤◌, ℕ, ◌+◌, ◌-◌, ◌*◌, cond, eqb, List, length}
use Rattle.larch_actions.specs.declared.event.Layout.{Layout}
use Rattle.sum_uses.specs.declared.added.Added.{Added}
use Rattle.sum_uses.specs.Sums.{IsAbove, added}
use Rattle.nub_rule.specs.Known.{Known, Shape}
use Rattle.nub.specs.Holding.{IsHolding}
use Rattle.nub.specs.Idle.{IsIdle}
use Rattle.bench_workloads.specs.Waking.{raises}

abbrev pub Worker : Type 0
Worker = Known ℕ (List Added) (Unit {0})

-- there are a mutex, two conditions, two semaphores and a thread
pub record HasObjects (l : Layout) : Type 0 where
  pub threads : 1 ≤ l.threads
  pub mutexes : 1 ≤ l.mutexes
  pub conditions : 2 ≤ l.conditions
  pub semaphores : 2 ≤ l.semaphores

-- the thread has made this many calls, each with one event of its own
abbrev pub HasMade : ℕ → Worker → Type 0
HasMade count t = length t.mine ≡ count

-- if semaphores are passed on, the second thread has made a call before, by which it took its own
abbrev pub first_calls : ℕ → ℕ
first_calls n = cond (eqb n 1) 1 0

-- the thread n has passed them on this often, and has counted that
abbrev pub HasPassed : ℕ → ℕ → ℕ → Worker → Type 0
HasPassed times n counted t = HasMade (first_calls n + 2 * times) t × (counted ≡ times)

-- alerts have ended this many waits of the thread
abbrev pub HasRaised : ℕ → Worker → Type 0
HasRaised count t = raises t.mine ≡ count

-- the first thread has begun `times` waits, each of which an alert has ended, and has counted them;
-- the others have counted none
abbrev pub HasWoken : ℕ → ℕ → ℕ → Worker → Type 0
HasWoken times n counted t = (n ≡ 0 → (counted ≡ times) × HasRaised times t) × (n ≢ 0 → counted ≡ 0)

-- the thread n of the package is between two calls, has added `total` under mutex 0, and satisfies
-- `Is`
pub record HasWorked (p : Shape (Unit {0})) (n total : ℕ) (Is : Worker → Type 0) (t : Worker) : Type 0 where
  pub share : List Added
  pub idle : IsIdle p n share t
  pub sum : added 0 share ≡ total
  pub is : Is t

-- it has added 1 `times` times
abbrev pub HasTurned : Shape (Unit {0}) → ℕ → ℕ → Worker → Type 0
HasTurned p n times t = HasWorked p n times (λ u. Unit {0}) t

-- the thread n of the package holds mutex 0 and no other; it got the value and has made it y; it
-- has added 1 `times` times, now or before, and alerts have ended `alerts` of its waits
pub record IsInside (p : Shape (Unit {0})) (n y times alerts : ℕ) (t : Worker) : Type 0 where
  pub got : ℕ
  pub share : List Added
  pub holding : IsHolding p n 0 share got t
  pub above : IsAbove 0 got share
  pub rises : got ≤ y
  pub sum : added 0 share + (y - got) ≡ times
  pub few : times ≤ 100000000000
  pub raised : HasRaised alerts t

-- from a to b this stays so: the value went from x to y by what others have added
abbrev pub StaysInside : Shape (Unit {0}) → ℕ → ℕ → Worker → Worker → Type 0
StaysInside p x y a b = (n times alerts : ℕ) → IsInside p n x times alerts a → IsInside p n y times alerts b
