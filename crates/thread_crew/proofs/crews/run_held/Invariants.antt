use Rattle.std.proofs.Common.{◌≡◌, ◌≤◌, ◌+◌, ◌++◌, List, length, vec_len, vec_capacity}
use Rattle.std.specs.Vec.Iter.{into_iter_items, into_iter_len}
use Rattle.std.specs.List.{AllZip}
use Rattle.thread_crew.specs.Crews.{IsChildOf, IsRunning, Turns}
use Rattle.thread_crew.proofs.crews.run_held.Given as goal

abbrev pub invariant-loop-child : goal.invariant-loop-child
invariant-loop-child g l =
    record {
      whole : l.yielded ++ into_iter_items l.child-iterator ≡ into_iter_items l.initial.child-iterator;
      left : into_iter_len l.child-iterator ≡ length (into_iter_items l.child-iterator);
      room : vec_len l.running + into_iter_len l.child-iterator ≤ vec_capacity l.running;
      ready : (jobs : List _) × AllZip (IsChildOf g.T.Task.run_gives (goal.F-pre g) (goal.F-post g)) jobs (into_iter_items l.child-iterator);
      turned : AllZip (Turns (IsChildOf g.T.Task.run_gives (goal.F-pre g) (goal.F-post g)) (IsRunning g.T.Task.run_gives)) l.yielded l.running.items;
    }
