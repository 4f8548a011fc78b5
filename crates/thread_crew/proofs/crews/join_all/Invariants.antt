use Rattle.std.proofs.Common.{◌≡◌, ◌≤◌, ◌+◌, ◌++◌, length, vec_len, vec_capacity}
use Rattle.std.specs.Vec.Iter.{into_iter_items, into_iter_len}
use Rattle.std.specs.List.{AllZip}
use Rattle.thread_crew.specs.Crews.{IsRunning, Turns}
use Rattle.thread_crew.proofs.crews.join_all.Given as goal

abbrev pub invariant-loop-one : goal.invariant-loop-one
invariant-loop-one g l =
    record {
      whole : l.yielded ++ into_iter_items l.one-iterator ≡ into_iter_items l.initial.one-iterator;
      left : into_iter_len l.one-iterator ≡ length (into_iter_items l.one-iterator);
      room : vec_len l.results + into_iter_len l.one-iterator ≤ vec_capacity l.results;
      turned : AllZip (Turns (IsRunning g.T.Task.run_gives) g.T.Task.run_gives) l.yielded l.results.items;
    }
