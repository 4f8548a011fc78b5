use Rattle.test_condition.specs.Free.{IsFree}
use Rattle.test_condition.proofs.work.alert_others.Given as goal

abbrev pub invariant-loop-other : goal.invariant-loop-other
invariant-loop-other g l = IsFree l.pkg l.initial.me.number l.me
