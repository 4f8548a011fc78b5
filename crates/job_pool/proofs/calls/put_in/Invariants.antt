use Rattle.std.proofs.Common.{◌≡◌, []}
use Rattle.job_pool.specs.Working.{HasMoved}
use Rattle.job_pool.proofs.calls.put_in.Given as goal

abbrev pub invariant-loop : goal.invariant-loop
invariant-loop g l = HasMoved l.p [] [] l.initial.me l.me × (l.held ≡ l.initial.held)
