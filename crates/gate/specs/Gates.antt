-- The events of the lock bits, and what changes when a thread takes or clears them.
use Rattle.std.specs.Prelude.{◌≡◌, ℕ, Option as Opt, Some, None, slice_set}
use Rattle.larch_actions.specs.declared.event.Event.{Event}
use Rattle.nub_rule.specs.declared.object.Object.{Object}
use Rattle.nub_rule.specs.declared.object.Object.TheVariants.{Mutex, Sem, Cond}
use Rattle.nub_rule.specs.declared.view.Wait.{Wait}
use Rattle.nub_rule.specs.declared.view.WaitBit.TheVariants.{Closing}
use Rattle.nub_rule.specs.Known.{EntersStint, Known, Holds, IsIn, MayGive, PicksShare}
use Rattle.nub_rule.specs.Plays.{MayTake, MayTakeSem, release_event, v_event}

-- the thread of this number, in this wait, may make the event e by taking the bit
abbrev pub MayMake : Object → ℕ → Opt Wait → Event → Type 0
MayMake (Mutex m) t wait e = MayTake t m.0 wait e
MayMake (Sem s) t wait e = (wait ≡ None) × MayTakeSem t s.0 e
MayMake (Cond c) t wait e = ⊥

-- the event by which the thread clears the bit, where the object has one
abbrev pub clears : Object → ℕ → Event
clears (Mutex m) t = release_event t m.0
clears (Sem s) t = v_event t s.0
clears (Cond c) t = v_event t c.0

-- the thread is in a wait on the mutex, which it has begun, and has yet to clear the bit
abbrev pub IsClosing : Object → Opt Wait → Type 0
IsClosing (Mutex m) wait = (x : Wait) × (wait ≡ Some x) × (x.mutex.0 ≡ m.0) × (x.bit ≡ Closing)
IsClosing _ wait = ⊥

-- the thread of this number, in this wait, may clear the bit: by its event if it is in no wait, and
-- for no event in a wait on the mutex
abbrev pub MayClear : Object → ℕ → Opt Wait → Opt Event → Type 0
MayClear at t wait None = IsClosing at wait
MayClear at t wait (Some e) = (wait ≡ None) × (e ≡ clears at t)

module _ {T H W : Type 0} where
  -- a thread that takes a mutex has its value, which fits
  abbrev pub IsTaken : (W → ℕ → T → ℕ → H → Type 0) → Object → Known T H W → Known T H W → Type 0
  IsTaken fits (Mutex m) a b = (x : T) × (b.held ≡ slice_set a.held m.0 (Some x)) × (b.values ≡ slice_set a.values m.0 (Some (Some x)))
      × Holds b m.0 x × IsIn b m.0 x
      × ((w : W) (s : H) → a.world ≡ Some w → a.share ≡ Some s → fits w m.0 x a.number s)
  IsTaken fits (Sem s) a b = (b.held ≡ a.held) × (b.values ≡ a.values)
  IsTaken fits (Cond c) a b = ⊥

  -- a thread that clears the bit of a mutex holds it, with a value that the chosen share allows
  abbrev pub MayFree : (W → ℕ → ℕ → T → T → H → H → Type 0) → (W → ℕ → ℕ → T → T → H → H) → Object → Known T H W → Type 0
  MayFree allows after (Mutex m) k = MayGive allows after m.0 k
  MayFree allows after (Sem s) k = Unit {0}
  MayFree allows after (Cond c) k = ⊥

  -- a thread that clears the bit of a mutex hands its value over, has the chosen share, and has entered the stint that ends
  abbrev pub IsFreed : (W → ℕ → ℕ → T → T → H → H) → Object → Known T H W → Known T H W → Type 0
  IsFreed after (Mutex m) a b = (b.held ≡ slice_set a.held m.0 None) × (b.values ≡ slice_set a.values m.0 None) × PicksShare after m.0 a b
      × EntersStint after m.0 a b
  IsFreed after (Sem s) a b = (b.held ≡ a.held) × (b.values ≡ a.values) × (b.share ≡ a.share) × (b.stints ≡ a.stints)
  IsFreed after (Cond c) a b = ⊥
