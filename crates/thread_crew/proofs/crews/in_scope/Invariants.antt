use Rattle.std.proofs.Common.{◌≡◌, ◌≤◌, ◌+◌, ◌++◌, length, vec_len, vec_capacity}
use Rattle.std.specs.Vec.Iter.{into_iter_items, into_iter_len}
use Rattle.std.specs.List.{AllZip, AllByRecursion, sum_by}
use Rattle.thread_crew.specs.Crews.{IsChildOf, held_in}
use Rattle.thread_crew.proofs.crews.in_scope.Given as goal

abbrev pub invariant-loop-job : goal.invariant-loop-job
invariant-loop-job g l =
    record {
      whole : l.yielded ++ into_iter_items l.job-iterator ≡ into_iter_items l.initial.job-iterator;
      left : into_iter_len l.job-iterator ≡ length (into_iter_items l.job-iterator);
      room : vec_len l.children + into_iter_len l.job-iterator ≤ vec_capacity l.children;
      count : vec_len l.children + into_iter_len l.job-iterator ≡ into_iter_len l.initial.job-iterator;
      recorded : vec_len l.children ≤ l.starts + l.held;
      few : l.held ≤ vec_len l.children;
      held : l.held ≡ sum_by held_in l.children.items;
      runs : AllByRecursion g.T.Task.can_run (into_iter_items l.job-iterator);
      given : AllZip (IsChildOf g.T.Task.run_gives (λ f. g.T.Task.can_run f.0) (λ f r. g.T.Task.run_gives f.0 r)) l.yielded l.children.items;
    }
