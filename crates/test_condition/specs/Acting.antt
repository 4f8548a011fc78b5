-- A thread of a test of readers and writers between two calls.
use Rattle.std.specs.Prelude.{◌≡◌, ℕ, ◌≤◌, List}
use Rattle.larch_actions.specs.declared.event.Layout.{Layout}
use Rattle.nub_rule.specs.Known.{Known, Shape}
use Rattle.nub.specs.Idle.{IsIdle}
use Rattle.readers_writers.specs.declared.role.Role.{Role}
use Rattle.readers_writers.specs.declared.role.RoleChange.{RoleChange}
use Rattle.readers_writers.specs.declared.state.RwState.{RwState}
use Rattle.readers_writers.specs.Roles.{role_of}

-- the thread n of the package is between two calls, and has this role under mutex 0
pub record IsActing (p : Shape (Unit {0})) (n : ℕ) (role : Role) (t : Known RwState (List RoleChange) (Unit {0})) : Type 0 where
  pub share : List RoleChange
  pub idle : IsIdle p n share t
  pub acts : role_of share 0 ≡ role

-- there is a state, and a condition for it
pub record HasState (l : Layout) : Type 0 where
  pub mutexes : 1 ≤ l.mutexes
  pub conditions : 1 ≤ l.conditions
