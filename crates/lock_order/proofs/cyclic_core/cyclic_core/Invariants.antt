use Rattle.lock_order.specs.Circles.{HoldsCycles}
use Rattle.lock_order.proofs.cyclic_core.cyclic_core.Given as goal

abbrev pub invariant-loop-m : goal.invariant-loop-m
invariant-loop-m l = HoldsCycles l.graph l.rest

abbrev pub decreases-loop-m : goal.decreases-loop-m
decreases-loop-m l = l.rest.bits
