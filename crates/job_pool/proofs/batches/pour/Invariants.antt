use Rattle.std.proofs.Common.{◌≡◌, ◌≤◌, ◌+◌, ◌++◌, length, vec_len, vec_capacity}
use Rattle.std.specs.Vec.Iter.{into_iter_items, into_iter_len}
use Rattle.job_pool.proofs.batches.pour.Given as goal

abbrev pub invariant-loop-slot : goal.invariant-loop-slot
invariant-loop-slot g l =
    record {
      whole : l.yielded ++ into_iter_items l.slot-iterator ≡ into_iter_items l.initial.slot-iterator;
      left : into_iter_len l.slot-iterator ≡ length (into_iter_items l.slot-iterator);
      room : vec_len l.slots + into_iter_len l.slot-iterator ≤ vec_capacity l.slots;
      wide : vec_capacity l.slots ≡ vec_capacity l.initial.slots;
      made : l.slots.items ≡ l.initial.slots.items ++ l.yielded;
    }
