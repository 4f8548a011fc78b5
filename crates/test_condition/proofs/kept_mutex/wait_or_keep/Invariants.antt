use Rattle.std.proofs.Common.{[]}
use Rattle.nub.specs.Idle.{IsIdle}
use Rattle.test_condition.proofs.kept_mutex.wait_or_keep.Given as goal

abbrev pub invariant-loop-time : goal.invariant-loop-time
invariant-loop-time g l = IsIdle l.pkg l.initial.me.number [] l.me
