-- Turns of readers and writers.
use Rattle.std.specs.Prelude.{◌≡◌, ◌≤◌, ℕ, Bool, cond, List, [], ◌∷◌, Some}
use Rattle.std.proofs.Common.{zero, suc}
use Rattle.std.specs.Bool.{nat_lt}
use Rattle.larch_actions.specs.declared.event.Layout.{Layout}
use Rattle.nub_rule.specs.Known.{Known, Shape}
use Rattle.nub.specs.Idle.{IsIdle}
use Rattle.readers_writers.specs.declared.role.Role.{Role}
use Rattle.readers_writers.specs.declared.role.Role.TheVariants.{Idle, Reading, Writing}
use Rattle.readers_writers.specs.declared.role.RoleChange.{RoleChange}
use Rattle.readers_writers.specs.declared.state.RwState.{RwState}
use Rattle.readers_writers.specs.Roles.{turn}

abbrev pub Player : Type 0
Player = Known RwState (List RoleChange) (Unit {0})

-- there is a state, and a condition for it
pub record HasState (l : Layout) : Type 0 where
  pub mutexes : 1 ≤ l.mutexes
  pub conditions : 1 ≤ l.conditions

-- n turns, in each of which a thread took this role and became idle again, the last first
abbrev pub AreTurns : Role → ℕ → List RoleChange → Type 0
AreTurns role zero s = s ≡ []
AreTurns role (suc n) s = (over : RoleChange) × (before : List RoleChange) × (s ≡ over ∷ turn 0 role ∷ before) × (over.mutex ≡ 0)
    × (over.now ≡ Idle) × AreTurns role n before

abbrev pub role_if : Bool → Role
role_if reads = cond reads Reading Writing

-- the first `readers` threads read, and the others write
abbrev pub role_by : ℕ → ℕ → Role
role_by readers n = role_if (nat_lt n readers)

-- the number of writes among `times` turns of the thread n
abbrev pub writes_by : ℕ → ℕ → ℕ → ℕ
writes_by readers times n = cond (nat_lt n readers) 0 times

-- the thread n has taken `times` turns
abbrev pub HasPlayed : ℕ → ℕ → ℕ → Player → Type 0
HasPlayed readers times n t = (s : List RoleChange) × (t.share ≡ Some s) × AreTurns (role_by readers n) times s

-- the thread n of the package is between two calls, and has taken so many turns in this role
abbrev pub HasTurns : Shape (Unit {0}) → Role → ℕ → ℕ → Player → Type 0
HasTurns p role n times t = (s : List RoleChange) × IsIdle p n s t × AreTurns role times s

-- the thread n of the package has taken `times` turns, and counted this many writes
abbrev pub HasCounted : Shape (Unit {0}) → ℕ → ℕ → ℕ → ℕ → Player → Type 0
HasCounted p readers times n writes t = HasTurns p (role_by readers n) n times t × (writes ≡ writes_by readers times n)
