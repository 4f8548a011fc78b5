use Rattle.test_condition.specs.Free.{IsFree}
use Rattle.test_condition.proofs.work.put_many.Given as goal

abbrev pub invariant-loop-i : goal.invariant-loop-i
invariant-loop-i g l = IsFree l.pkg l.initial.me.number l.me
