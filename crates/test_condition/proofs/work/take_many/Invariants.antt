use Rattle.test_condition.specs.Free.{IsFree}
use Rattle.test_condition.proofs.work.take_many.Given as goal

abbrev pub invariant-loop : goal.invariant-loop
invariant-loop g l = IsFree l.pkg l.initial.me.number l.me
