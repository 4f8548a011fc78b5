use Rattle.lock_order.proofs.Peeling.{IsKnotBelow}
use Rattle.lock_order.proofs.cyclic_core.foremost.Given as goal

abbrev pub invariant-loop-k : goal.invariant-loop-k
invariant-loop-k l = IsKnotBelow l.k l.graph l.rest
