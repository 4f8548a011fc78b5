-- A thread of a test between two calls.
use Rattle.std.specs.Prelude.{ℕ, ◌≤◌}
use Rattle.larch_actions.specs.declared.event.Layout.{Layout}
use Rattle.nub_rule.specs.Known.{Known, Shape}
use Rattle.nub.specs.Idle.{IsIdle}

-- the thread n of the package is between two calls and holds no mutex, whatever its share
pub record IsFree {T H W : Type 0} (p : Shape W) (n : ℕ) (t : Known T H W) : Type 0 where
  pub share : H
  pub idle : IsIdle p n share t

-- there is a buffer, and a thread
pub record HasBuffer (l : Layout) : Type 0 where
  pub threads : 1 ≤ l.threads
  pub mutexes : 1 ≤ l.mutexes
  pub conditions : 2 ≤ l.conditions
