-- Jobs with what they gave.
use Rattle.std.specs.Prelude.{◌≡◌, ◌≢◌, ◌⊎◌, ℕ, ◌<◌, ◌≤◌, Bool, true, false, List, [], ◌∷◌, ◌++◌, Option as Opt, Some, None}
use Rattle.std.specs.List.{AllZip}
use mathlib.Core.Option.{some}
use lib.ListN.{get_elem?}
use Rattle.job_pool.specs.declared.job.Work.{Work}
use Rattle.job_pool.specs.declared.job.Work.TheVariants.{Value, Stop}
use Rattle.job_pool.specs.declared.slot.Slot.{Slot}
use Rattle.job_pool.specs.declared.batch.Batch.{Batch}

-- a job that was not called
abbrev pub fresh : {J : Type 0} → J → Slot J
fresh job = record { job = job; answer = None }

-- whether what was called gave Stop, or a value
abbrev pub Says : Bool → Opt Work → Type 0
Says true answer = answer ≡ Some Stop
Says false answer = (v : ℕ) × (answer ≡ Some (Value v))

-- the slots of batches one after the other
abbrev pub slots_of : {J : Type 0} → List (Batch J) → List (Slot J)
slots_of [] = []
slots_of (b ∷ bs) = b.slots.items ++ slots_of bs

module _ {J : Type 0} (state : J → List ℕ) (gives : J → Work) (next : J → List ℕ) where
  -- the job, which was not called, was called once
  pub record WasCalled (a b : Slot J) : Type 0 where
    pub first : a.answer ≡ None
    pub answer : b.answer ≡ Some (gives a.job)
    pub after : state b.job ≡ next a.job

  -- the job was called at most once, and not if it was called before
  abbrev pub MayBeCalled : Slot J → Slot J → Type 0
  MayBeCalled a b = (b ≡ a) ⊎ WasCalled a b

-- an empty list with room for `size` items
pub record IsRoom {A : Type 0} (size : ℕ) (items : List A) (capacity : ℕ) : Type 0 where
  pub empty : items ≡ []
  pub wide : size ≤ capacity

-- a slot whose job gave a value
abbrev pub HasValue : {J : Type 0} → Slot J → Type 0
HasValue s = Says false s.answer

-- the slot at the place k has a job that gave Stop
pub record StopsAt {J : Type 0} (k : ℕ) (slots : List (Slot J)) : Type 0 where
  pub slot : Slot J
  pub is_slot : get_elem? slots k ≡ some slot
  pub stops : slot.answer ≡ Some Stop

-- a job of these slots gave Stop
abbrev pub HasStop : {J : Type 0} → List (Slot J) → Type 0
HasStop slots = (k : ℕ) × StopsAt k slots

-- the job of the slot gave no Stop
abbrev pub HasNoStop : {J : Type 0} → Slot J → Type 0
HasNoStop s = s.answer ≢ Some Stop

-- the job at the place k gave Stop, and what comes after it is as it was
pub record EndsAt {J : Type 0} (k : ℕ) (old new : List (Slot J)) : Type 0 where
  pub stops : StopsAt k new
  pub after : (i : ℕ) → k < i → get_elem? new i ≡ get_elem? old i

-- each job of the batch was called at most once
abbrev pub MayBeWorked : {J : Type 0} → (J → List ℕ) → (J → Work) → (J → List ℕ) → Batch J → Batch J → Type 0
MayBeWorked state gives next a b = AllZip (MayBeCalled state gives next) a.slots.items b.slots.items
