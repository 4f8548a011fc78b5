-- A thread goes from one role to another, and what its call adds.
use Rattle.std.proofs.Common.{◌≡◌, ℕ, List, [], ◌∷◌, ap, subst, sym, ◌∙◌, refl, inr, Some, None}
use Rattle.std.specs.Prelude.{Option as Opt}
use Rattle.std.proofs.lemmas.Option.{same_Some}
use Rattle.larch_actions.specs.declared.event.Event.{Event}
use Rattle.nub_rule.specs.Plays.{acquire_event, release_event}
use Rattle.nub.specs.Rest.{Adds, IsSame}
use Rattle.nub.proofs.Adding.{added, adds_on}
use Rattle.readers_writers.specs.Calls.{RwThread}
use Rattle.readers_writers.specs.declared.role.Role.{Role}
use Rattle.readers_writers.specs.declared.role.Role.TheVariants.{Idle, Reading, Writing}
use Rattle.readers_writers.specs.declared.role.RoleChange.{RoleChange}
use Rattle.readers_writers.specs.declared.state.RwState.{RwState}
use Rattle.readers_writers.specs.Roles.{Allowed, Goes, goes_to, role_of, turn, turn_from_reading}

pub goes_by : (m t : ℕ) (old role : Role) (x y : RwState) (s : List RoleChange) → role_of s m ≡ old → Goes t old role x y → Allowed m t x y s (goes_to m (role_of s m) role y ∷ s)
goes_by m t old role x y s is goes = let P : Role → Type 0 = λ r. Goes t r role x y in inr (role, subst P (sym is) goes, refl)

-- what a change says of the readers that are left, by the role before
pub from_idle : (m : ℕ) (role : Role) (y : RwState) (s : List RoleChange) → role_of s m ≡ Idle → goes_to m (role_of s m) role y ≡ turn m role
from_idle m role y s is = ap (λ r. goes_to m r role y) is

pub from_reading : (m : ℕ) (y : RwState) (s : List RoleChange) → role_of s m ≡ Reading → goes_to m (role_of s m) Idle y ≡ turn_from_reading m y.readers
from_reading m y s is = ap (λ r. goes_to m r Idle y) is

pub from_writing : (m : ℕ) (y : RwState) (s : List RoleChange) → role_of s m ≡ Writing → goes_to m (role_of s m) Idle y ≡ turn m Idle
from_writing m y s is = ap (λ r. goes_to m r Idle y) is

-- the share of a thread is one
pub role_as : {a b : List RoleChange} (m : ℕ) (role : Role) (x : Opt (List RoleChange)) → x ≡ Some a → x ≡ Some b → role_of b m ≡ role → role_of a m ≡ role
role_as m role x own mine is = ap (λ (u : List RoleChange). role_of u m) (same_Some _ _ (sym own ∙ mine)) ∙ is

-- the thread took the mutex, did this, and gave it back
pub left_by : (es : ℕ → List Event) (m : ℕ) (a b e : RwThread) → IsSame a b → Adds [] (acquire_event a.number m) a b → Adds (es b.number) (release_event b.number m) b e
    → Adds (acquire_event a.number m ∷ es a.number) (release_event a.number m) a e
left_by es m a b e same took gave =
    adds_on (acquire_event a.number m ∷ []) (es a.number) (release_event a.number m) a b e (added [] (acquire_event a.number m) a b took) (subst (λ n. Adds (es n) (release_event n m) b e) same.number gave)
