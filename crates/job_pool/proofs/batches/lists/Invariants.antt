use Rattle.std.proofs.Common.{◌≡◌, ◌≤◌, vec_len, vec_capacity}
use Rattle.std.specs.List.{AllByRecursion}
use Rattle.job_pool.specs.Slots.{IsRoom}
use Rattle.job_pool.proofs.batches.lists.Given as goal

abbrev pub invariant-loop-made : goal.invariant-loop-made
invariant-loop-made g l =
    record {
      count : vec_len l.lists ≡ l.made;
      wide : l.fn.count ≤ vec_capacity l.lists;
      each : AllByRecursion (λ x. IsRoom l.fn.size x.items (vec_capacity x)) l.lists.items;
    }
