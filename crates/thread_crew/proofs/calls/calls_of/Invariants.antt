use Rattle.std.proofs.Common.{◌≡◌, ◌≤◌, ◌+◌, ◌++◌, length, map, vec_len, vec_capacity}
use Rattle.std.specs.List.{AllByRecursion}
use Rattle.std.specs.Vec.Iter.{into_iter_items, into_iter_len}
use Rattle.thread_crew.proofs.calls.calls_of.Given as goal

abbrev pub invariant-loop-job : goal.invariant-loop-job
invariant-loop-job g l =
    record {
      whole : l.yielded ++ into_iter_items l.job-iterator ≡ into_iter_items l.initial.job-iterator;
      left : into_iter_len l.job-iterator ≡ length (into_iter_items l.job-iterator);
      room : vec_len l.calls + into_iter_len l.job-iterator ≤ vec_capacity l.calls;
      made : map (λ c. c.job) l.calls.items ≡ l.yielded;
      by : AllByRecursion (λ c. c.f.now ≡ l.f) l.calls.items;
    }
