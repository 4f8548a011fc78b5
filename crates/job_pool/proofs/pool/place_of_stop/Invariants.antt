use Rattle.std.proofs.Common.{◌≡◌, ℕ, ◌<◌, get_or}
use Rattle.job_pool.specs.Slots.{HasNoStop}
use Rattle.job_pool.proofs.pool.place_of_stop.Given as goal

abbrev pub invariant-loop-slot : goal.invariant-loop-slot
invariant-loop-slot g l = record {
  count : l.place ≡ l.slot-index;
  none : (k : ℕ) (d : _) → k < l.slot-index → HasNoStop (get_or l.slots k d);
}
