use Rattle.lock_order.proofs.Tables.{IsNesting}
use Rattle.lock_order.proofs.lock_graph.LockGraph.nest.Given as goal

abbrev pub invariant-loop-thread : goal.invariant-loop-thread
invariant-loop-thread l = IsNesting l.fn.self l.self l.fn.new l.rest l.fn.thread.0 l.fn.inner.0 l.fn.place

abbrev pub decreases-loop-thread : goal.decreases-loop-thread
decreases-loop-thread l = l.rest.bits
