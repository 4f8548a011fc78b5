use Rattle.std.proofs.Common.{◌≡◌, ℕ, ◌<◌, ◌≤◌, get_or}
use lib.ListN.{get_elem?}
use Rattle.std.specs.List.{AllZip}
use Rattle.job_pool.specs.Slots.{MayBeCalled, HasValue}
use Rattle.job_pool.proofs.batch.call_all.Given as goal

abbrev pub invariant-loop-slot : goal.invariant-loop-slot
invariant-loop-slot g l =
    record {
      count : l.place ≡ l.slot-index;
      called : AllZip (MayBeCalled g.J.Job.state g.J.Job.gives g.J.Job.next) l.initial.slots l.slots;
      values : (k : ℕ) (d : _) → k < l.slot-index → HasValue (get_or l.slots k d);
      rest : (k : ℕ) → l.slot-index ≤ k → get_elem? l.slots k ≡ get_elem? l.initial.slots k;
    }
