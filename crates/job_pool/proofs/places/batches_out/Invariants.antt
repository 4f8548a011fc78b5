use Rattle.std.proofs.Common.{◌≡◌, ◌≤◌, ◌+◌, ◌++◌, length, map, vec_len, vec_capacity, Some}
use Rattle.std.specs.Prelude.{IsSome}
use Rattle.std.specs.List.{AllByRecursion}
use Rattle.std.specs.Vec.Iter.{into_iter_items, into_iter_len}
use Rattle.job_pool.proofs.places.batches_out.Given as goal

abbrev pub invariant-loop-one : goal.invariant-loop-one
invariant-loop-one g l =
    record {
      whole : l.yielded ++ into_iter_items l.one-iterator ≡ into_iter_items l.initial.one-iterator;
      left : into_iter_len l.one-iterator ≡ length (into_iter_items l.one-iterator);
      room : vec_len l.out + into_iter_len l.one-iterator ≤ vec_capacity l.out;
      full : AllByRecursion IsSome (into_iter_items l.one-iterator);
      made : l.yielded ≡ map (λ x. Some x) l.out.items;
    }
