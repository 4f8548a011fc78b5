use Rattle.std.proofs.Common.{◌-◌, length}
use Rattle.lock_order.proofs.Walks.{IsWalk}
use Rattle.lock_order.proofs.cyclic_core.circle.Given as goal

abbrev pub invariant-loop-k : goal.invariant-loop-k
invariant-loop-k l = IsWalk l.graph l.core l.m.0 l.path.items

abbrev pub decreases-loop-k : goal.decreases-loop-k
decreases-loop-k l = 64 - length l.path.items
