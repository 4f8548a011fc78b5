use Rattle.std.proofs.Common.{◌≡◌, ◌++◌, length, vec_capacity}
use Rattle.std.specs.Vec.Iter.{into_iter_items, into_iter_len}
use Rattle.job_pool.specs.Slots.{slots_of}
use Rattle.job_pool.proofs.batches.join.Given as goal

abbrev pub invariant-loop-batch : goal.invariant-loop-batch
invariant-loop-batch g l =
    record {
      left : into_iter_len l.batch-iterator ≡ length (into_iter_items l.batch-iterator);
      wide : vec_capacity l.slots ≡ vec_capacity l.initial.slots;
      made : l.slots.items ++ slots_of (into_iter_items l.batch-iterator) ≡ slots_of (into_iter_items l.initial.batch-iterator);
    }
