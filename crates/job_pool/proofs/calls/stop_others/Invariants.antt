use Rattle.std.proofs.Common.{◌≡◌, []}
use Rattle.nub.specs.Rest.{Added}
use Rattle.job_pool.specs.Stopping.{alerts_by}
use Rattle.job_pool.specs.Working.{HasMoved}
use Rattle.job_pool.proofs.calls.stop_others.Given as goal

abbrev pub invariant-loop-t : goal.invariant-loop-t
invariant-loop-t g l = record {
  moved : HasMoved l.p [] [] l.initial.me l.me;
  number : l.me.number ≡ l.initial.me.number;
  alerts : Added (alerts_by l.initial.me.number l.t) l.initial.me l.me;
}
