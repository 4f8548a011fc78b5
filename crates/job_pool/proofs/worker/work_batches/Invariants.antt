use Rattle.std.proofs.Common.{◌≡◌, ◌≤◌, vec_len, vec_capacity}
use Rattle.std.specs.List.{AllByRecursion}
use Rattle.job_pool.specs.Slots.{MayBeWorked}
use Rattle.job_pool.specs.Stopping.{IsUnstopped}
use Rattle.job_pool.proofs.Turning.{SoFar}
use Rattle.job_pool.proofs.worker.work_batches.Given as goal

abbrev pub invariant-loop-turn : goal.invariant-loop-turn
invariant-loop-turn g l =
    record {
      done : SoFar (MayBeWorked g.J.Job.state g.J.Job.gives g.J.Job.next) l.p l.initial.me l.me l.list.items;
      few : vec_len l.list ≡ l.turn;
      wide : l.fn.room ≤ vec_capacity l.list;
      none : AllByRecursion IsUnstopped l.list.items;
    }
