use Rattle.std.proofs.Common.{◌-◌}
use Rattle.lock_order.proofs.Walks.{IsTurning}
use Rattle.lock_order.proofs.cycle.turn.Given as goal

abbrev pub invariant-loop : goal.invariant-loop
invariant-loop l = IsTurning l.graph l.circle.items (l.turns - l.counter)
