-- The two sides of a ring: where a thread waits, and where it goes on.
use Rattle.std.specs.Prelude.{◌≡◌, ℕ, ◌<◌, false, length}
use Rattle.bounded_buffer.specs.declared.did.Did.{Did}
use Rattle.bounded_buffer.specs.declared.did.Did.TheVariants.{WaitedFull, WaitedEmpty}
use Rattle.bounded_buffer.specs.declared.side.Side.{Side}
use Rattle.bounded_buffer.specs.declared.side.Side.TheVariants.{Putting, Taking}
use Rattle.bounded_buffer.specs.Parts.{Used, more_full, more_empty}
use Rattle.bounded_buffer.specs.Rings.{Held}

module _ {T : Type 0} where
  -- what a thread does when it has to wait
  abbrev pub wait_of : Side → Did T
  wait_of Putting = WaitedFull
  wait_of Taking = WaitedEmpty

  -- the part of a share after more waits of this side
  abbrev pub more : Side → ℕ → Used T → Used T
  more Putting = more_full
  more Taking = more_empty

  -- an open ring has room for a thread that puts, and an item for one that takes
  abbrev pub MayGo : Side → Held T → Type 0
  MayGo Putting q = q.shut ≡ false → length q.items < q.capacity
  MayGo Taking q = q.shut ≡ false → 0 < length q.items
