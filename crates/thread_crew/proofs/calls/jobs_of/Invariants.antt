use Rattle.std.proofs.Common.{◌≡◌, ◌≤◌, ◌+◌, ◌++◌, length, map, vec_len, vec_capacity}
use Rattle.std.specs.Vec.Iter.{into_iter_items, into_iter_len}
use Rattle.thread_crew.proofs.calls.jobs_of.Given as goal

abbrev pub invariant-loop-call : goal.invariant-loop-call
invariant-loop-call g l =
    record {
      whole : l.yielded ++ into_iter_items l.call-iterator ≡ into_iter_items l.initial.call-iterator;
      left : into_iter_len l.call-iterator ≡ length (into_iter_items l.call-iterator);
      room : vec_len l.jobs + into_iter_len l.call-iterator ≤ vec_capacity l.jobs;
      made : l.jobs.items ≡ map (λ c. c.job) l.yielded;
    }
