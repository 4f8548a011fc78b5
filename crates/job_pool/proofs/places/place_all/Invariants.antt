use Rattle.std.proofs.Common.{◌≡◌, ◌≤◌, ◌+◌, ◌++◌, length, map, vec_len, vec_capacity}
use Rattle.std.specs.Vec.Iter.{into_iter_items, into_iter_len}
use Rattle.job_pool.specs.Crews.{filled_by}
use Rattle.job_pool.proofs.places.place_all.Given as goal

abbrev pub invariant-loop-thread : goal.invariant-loop-thread
invariant-loop-thread g l =
    record {
      whole : l.yielded ++ into_iter_items l.thread-iterator ≡ into_iter_items l.initial.thread-iterator;
      left : into_iter_len l.thread-iterator ≡ length (into_iter_items l.thread-iterator);
      room : vec_len l.threads + into_iter_len l.thread-iterator ≤ vec_capacity l.threads;
      made : l.threads.items ≡ l.initial.threads.items ++ map (λ r. r.0) l.yielded;
      same : filled_by (into_iter_items l.thread-iterator) l.places ≡ filled_by (into_iter_items l.initial.thread-iterator) l.initial.places;
    }
