use Rattle.std.proofs.Common.{◌≡◌, ℕ, ◌+◌, ◌≤◌, ◌<◌, ◌++◌, map, length, vec_len, vec_capacity, get_or, Some, None}
use Rattle.std.specs.Vec.Iter.{into_iter_items, into_iter_len}
use Rattle.indexer.specs.Jobs.{kind_at, tree_at}
use Rattle.indexer.specs.Roles.{role_of}
use Rattle.indexer.proofs.run.trees.jobs_of.Given as goal

abbrev pub invariant-loop-me : goal.invariant-loop-me
invariant-loop-me g l =
    record {
      whole : l.yielded ++ into_iter_items l.me-iterator ≡ into_iter_items l.initial.me-iterator;
      left : into_iter_len l.me-iterator ≡ length (into_iter_items l.me-iterator);
      room : vec_len l.jobs + into_iter_len l.me-iterator ≤ vec_capacity l.jobs;
      made : map (λ j. j.me) l.jobs.items ≡ l.yielded;
      roles : (k : ℕ) (e : _) → k < length l.jobs.items → (get_or l.jobs.items k e).role ≡ role_of (kind_at l.walkers k) (tree_at l.with_tree l.initial.trees k);
      ahead : (i : ℕ) (d : _) → length l.jobs.items ≤ i → get_or l.trees i d ≡ get_or l.initial.trees i d;
      above : (i : ℕ) (d : _) → l.with_tree ≤ i → get_or l.trees i d ≡ get_or l.initial.trees i d;
      stood : (i : ℕ) (r : _) → get_or l.trees i None ≡ Some r → get_or l.initial.trees i None ≡ Some r;
    }
