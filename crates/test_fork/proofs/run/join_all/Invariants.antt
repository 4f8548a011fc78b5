use Rattle.std.proofs.Common.{[]}
use Rattle.nub.specs.Idle.{IsIdle}
use Rattle.test_fork.proofs.run.join_all.Given as goal

abbrev pub invariant-loop-who : goal.invariant-loop-who
invariant-loop-who g l = IsIdle l.pkg l.initial.me.number [] l.me
