use Rattle.std.proofs.Common.{◌≡◌, ◌≤◌, ◌-◌, ◌++◌, length, map, vec_len, vec_capacity}
use Rattle.std.specs.Vec.Iter.{into_iter_items, into_iter_len}
use Rattle.job_pool.specs.Slots.{fresh}
use Rattle.job_pool.proofs.batches.batch_of.Given as goal

abbrev pub invariant-loop-filled : goal.invariant-loop-filled
invariant-loop-filled g l =
    record {
      same : l.slots.items ++ map fresh (into_iter_items l.source) ≡ map fresh (into_iter_items l.initial.source);
      less : length (into_iter_items l.source) ≡ length (into_iter_items l.initial.source) - l.filled;
      left : into_iter_len l.source ≡ length (into_iter_items l.source);
      few : vec_len l.slots ≡ l.filled;
      wide : l.fn.size ≤ vec_capacity l.slots;
    }
