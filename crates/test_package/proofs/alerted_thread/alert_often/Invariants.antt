use Rattle.std.proofs.Common.{[]}
use Rattle.nub.specs.Idle.{IsIdle}
use Rattle.test_package.proofs.alerted_thread.alert_often.Given as goal

abbrev pub invariant-loop-i : goal.invariant-loop-i
invariant-loop-i g l = IsIdle l.pkg l.initial.me.number [] l.me
