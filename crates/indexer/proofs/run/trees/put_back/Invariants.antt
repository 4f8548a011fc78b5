use Rattle.std.proofs.Common.{◌≡◌, ℕ, ◌+◌, ◌≤◌, ◌<◌, ◌++◌, map, length, vec_len, vec_capacity, get_or}
use Rattle.std.specs.Vec.Iter.{into_iter_items, into_iter_len}
use Rattle.indexer.specs.Roles.{tree_of}
use Rattle.indexer.proofs.run.trees.put_back.Given as goal

abbrev pub invariant-loop-job : goal.invariant-loop-job
invariant-loop-job g l =
    record {
      whole : l.yielded ++ into_iter_items l.job-iterator ≡ into_iter_items l.initial.job-iterator;
      left : into_iter_len l.job-iterator ≡ length (into_iter_items l.job-iterator);
      room : vec_len l.threads + into_iter_len l.job-iterator ≤ vec_capacity l.threads;
      count : l.k ≡ length l.yielded;
      made : l.threads.items ≡ l.initial.threads.items ++ map (λ j. j.me) l.yielded;
      back : (k : ℕ) (d : _) (e : _) → k < l.with_tree → k < length l.yielded → get_or l.trees k d ≡ tree_of (get_or l.yielded k e).role;
      above : (i : ℕ) (d : _) → l.with_tree ≤ i → get_or l.trees i d ≡ get_or l.initial.trees i d;
    }
