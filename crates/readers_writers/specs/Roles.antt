-- Which threads read and which write under a mutex.
use Rattle.std.specs.Prelude.{◌≡◌, ◌⊎◌, ℕ, ◌+◌, ◌<◌, ◌≤◌, cond, eqb, List, [], ◌∷◌, length, Option as Opt, Some, None}
use mathlib.Core.Option.{some}
use lib.ListN.{get_elem?}
use Rattle.larch_actions.specs.declared.event.Layout.{Layout}
use Rattle.nub.specs.Totals.{total}
use Rattle.readers_writers.specs.declared.role.Role.{Role}
use Rattle.readers_writers.specs.declared.role.Role.TheVariants.{Idle, Reading, Writing}
use Rattle.readers_writers.specs.declared.role.RoleChange.{RoleChange}
use Rattle.readers_writers.specs.declared.state.RwAt.{RwAt}
use Rattle.readers_writers.specs.declared.state.RwState.{RwState}

-- the mutex and the condition are in the layout
pub record IsNamed (l : Layout) (at : RwAt) : Type 0 where
  pub mutex : at.mutex.0 < l.mutexes
  pub changed : at.changed.0 < l.conditions

abbrev pub turn : ℕ → Role → RoleChange
turn m role = record { mutex = m; now = role; left = None }

-- a thread ended to read, and left so many readers
abbrev pub turn_from_reading : ℕ → ℕ → RoleChange
turn_from_reading m readers = record { mutex = m; now = Idle; left = Some readers }

-- how many readers a thread left that was in this role before, where it has ended to read
abbrev pub readers_left : Role → RwState → Opt ℕ
readers_left Reading y = Some y.readers
readers_left _ y = None

-- from this role the thread goes to another, and leaves the state y
abbrev pub goes_to : ℕ → Role → Role → RwState → RoleChange
goes_to m old role y = record { mutex = m; now = role; left = readers_left old y }

-- what the thread with this share does under the mutex m
abbrev pub role_of : List RoleChange → ℕ → Role
role_of [] m = Idle
role_of (x ∷ s) m = cond (eqb x.mutex m) x.now (role_of s m)

abbrev pub one_if_reading : Role → ℕ
one_if_reading Reading = 1
one_if_reading _ = 0

abbrev pub reading : ℕ → List (List RoleChange) → ℕ
reading m shares = total (λ s. one_if_reading (role_of s m)) shares

-- the state that m protects: as many readers as threads that read, the one writer is the thread
-- that writes, and never both
pub record IsRole (m : ℕ) (q : RwState) (shares : List (List RoleChange)) : Type 0 where
  pub readers : q.readers ≡ reading m shares
  pub writes : (t : ℕ) → q.writer ≡ Some t → (s : List RoleChange) × (get_elem? shares t ≡ some s) × (role_of s m ≡ Writing)
  pub writer : (t : ℕ) (s : List RoleChange) → get_elem? shares t ≡ some s → role_of s m ≡ Writing → q.writer ≡ Some t
  pub apart : (t : ℕ) → q.writer ≡ Some t → q.readers ≡ 0

-- the rule of each mutex, for as many threads as a package may have
pub record AreRoles (values : List RwState) (shares : List (List RoleChange)) : Type 0 where
  pub few : length shares ≤ 256
  pub each : (m : ℕ) (q : RwState) → get_elem? values m ≡ some q → IsRole m q shares

-- what a holder knows of the state and of its own share
pub record IsKnown (m : ℕ) (q : RwState) (t : ℕ) (s : List RoleChange) : Type 0 where
  pub few : q.readers ≤ 256
  pub reads : role_of s m ≡ Reading → (1 ≤ q.readers) × (q.writer ≡ None)
  pub writes : role_of s m ≡ Writing → (q.writer ≡ Some t) × (q.readers ≡ 0)

-- the thread t goes from one role to another
abbrev pub Goes : ℕ → Role → Role → RwState → RwState → Type 0
Goes t Idle Reading x y = (x.writer ≡ None) × (y ≡ record x { readers = x.readers + 1 })
Goes t Reading Idle x y = (x.readers ≡ y.readers + 1) × (y.writer ≡ x.writer)
Goes t Idle Writing x y = (x.writer ≡ None) × (x.readers ≡ 0) × (y ≡ record x { writer = Some t })
Goes t Writing Idle x y = y ≡ record x { writer = None }
Goes t _ _ x y = ⊥

-- nothing changes, or the thread goes to another role
abbrev pub Allowed : ℕ → ℕ → RwState → RwState → List RoleChange → List RoleChange → Type 0
Allowed m t x y s r = ((y ≡ x) × (r ≡ s)) ⊎ ((role : Role) × Goes t (role_of s m) role x y × (r ≡ goes_to m (role_of s m) role y ∷ s))
