use Rattle.std.proofs.Common.{◌≡◌, ◌≤◌, ◌+◌, ◌*◌, ◌++◌, length, map, vec_len, vec_capacity}
use Rattle.std.specs.Vec.Iter.{into_iter_items, into_iter_len}
use Rattle.std.specs.List.{AllByRecursion}
use Rattle.job_pool.specs.Slots.{IsRoom, fresh, slots_of}
use Rattle.job_pool.proofs.batches.cut.Given as goal

abbrev pub invariant-loop-list : goal.invariant-loop-list
invariant-loop-list g l =
    record {
      left : into_iter_len l.list-iterator ≡ length (into_iter_items l.list-iterator);
      room : vec_len l.batches + into_iter_len l.list-iterator ≤ vec_capacity l.batches;
      rooms : AllByRecursion (λ x. IsRoom l.fn.size x.items (vec_capacity x)) (into_iter_items l.list-iterator);
      count : vec_len l.batches + into_iter_len l.list-iterator ≡ into_iter_len l.initial.list-iterator;
      source : into_iter_len l.source ≡ length (into_iter_items l.source);
      same : slots_of l.batches.items ++ map fresh (into_iter_items l.source) ≡ map fresh (into_iter_items l.initial.source);
      enough : length (into_iter_items l.source) ≤ into_iter_len l.list-iterator * l.fn.size;
    }
