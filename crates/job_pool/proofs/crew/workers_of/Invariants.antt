use Rattle.std.proofs.Common.{◌≡◌, ◌≤◌, ◌+◌, length, vec_len, vec_capacity}
use Rattle.std.specs.Vec.Iter.{into_iter_items, into_iter_len}
use Rattle.job_pool.specs.Crews.{AreReady}
use Rattle.job_pool.specs.Working.{AreFirst}
use Rattle.job_pool.proofs.crew.workers_of.Given as goal

abbrev pub invariant-loop-me : goal.invariant-loop-me
invariant-loop-me g l =
    record {
      left : into_iter_len l.me-iterator ≡ length (into_iter_items l.me-iterator);
      room : vec_len l.workers + into_iter_len l.me-iterator ≤ vec_capacity l.workers;
      first : AreFirst l.p (1 + length l.workers.items) (into_iter_items l.me-iterator);
      ready : AreReady l.p l.fn.room 1 l.workers.items;
      count : length l.workers.items + into_iter_len l.me-iterator ≡ into_iter_len l.initial.me-iterator;
    }
