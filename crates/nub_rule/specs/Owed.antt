-- The threads that a free gate with a queue can count on. A gate is a mutex or a semaphore.
use Rattle.std.specs.Prelude.{true, false, ◌≡◌, ◌≢◌, ◌⊎◌, ℕ, ◌<◌, List, [], slice_index, Some}
use mathlib.Core.Option.{some}
use lib.ListN.{get_elem?}
use Rattle.larch_actions.specs.Sets.{mem}
use Rattle.nub_rule.specs.declared.view.Part.{Part}
use Rattle.nub_rule.specs.declared.view.Stand.{Stand}
use Rattle.nub_rule.specs.declared.view.Stage.{Stage}
use Rattle.nub_rule.specs.declared.view.Stage.TheVariants.{Asleep}
use Rattle.nub_rule.specs.Parts.{IsUntested, stands_at}
use Rattle.nub_rule.specs.Places.{bit_at}

abbrev pub IsAsleep : Stage → Type 0
IsAsleep Asleep = Unit {0}
IsAsleep _ = ⊥

module _ {T H : Type 0} where
  -- first case: the thread has cleared the bit of the gate o, and since then has neither popped nor
  -- found no queue
  abbrev pub HasCleared : ℕ → Part T H → Type 0
  HasCleared o p = mem o p.cleared ≡ true

  -- second case: the thread n has left the queue of the gate o, popped or by itself, and hasn't
  -- tried the bit since
  abbrev pub HasTurn : ℕ → List ℕ → ℕ → Part T H → Type 0
  HasTurn o queue n p = (mem o p.turns ≡ true) ⊎ ((stands_at p.stand o ≡ true) × (mem n queue ≡ false))

  -- third case: the thread n is in the queue of the gate o, and hasn't found the bit set since its
  -- push
  abbrev pub IsUnsure : ℕ → List ℕ → ℕ → Part T H → Type 0
  IsUnsure o queue n p = (s : Stand) × (p.stand ≡ Some s) × (s.at ≡ o) × IsUntested s.stage × (mem n queue ≡ true)

  -- the thread n must look at the gate o, whose queue this is
  abbrev pub MustLook : ℕ → List ℕ → ℕ → Part T H → Type 0
  MustLook o queue n p = HasCleared o p ⊎ (HasTurn o queue n p ⊎ IsUnsure o queue n p)

  -- some thread must look at the gate o
  abbrev pub SomebodyMustLook : ℕ → List ℕ → List (Part T H) → Type 0
  SomebodyMustLook o queue all = (n : ℕ) × (p : Part T H) × (get_elem? all n ≡ some p) × MustLook o queue n p

  -- a thread that sleeps owes no look to a gate that it has cleared
  abbrev pub SleepsSound : Part T H → Type 0
  SleepsSound p = (s : Stand) → p.stand ≡ Some s → IsAsleep s.stage → p.cleared ≡ []

  -- WAKE OWED: if a bit is 0 and threads queue, some thread must look; and no thread sleeps that
  -- has cleared a bit and has yet to look at its queue
  pub record WakeOwed (queue : ℕ → List ℕ) (words : List ℕ) (all : List (Part T H)) : Type 0 where
    pub looks : (o : ℕ) → o < 128 → slice_index words (bit_at o) ≡ 0 → queue o ≢ [] → SomebodyMustLook o (queue o) all
    pub sound : (n : ℕ) (p : Part T H) → get_elem? all n ≡ some p → SleepsSound p
