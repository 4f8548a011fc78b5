use Rattle.lock_order.proofs.Peeling.{holds_all, holds_rest}
use Rattle.lock_order.proofs.cyclic_core.cyclic_core.Goals as goal

pub loop-m-init : goal.loop-m-init
loop-m-init c = holds_all c.args.graph.now c.all-rest.result c.requires c.all-rest.ensures

pub loop-m-preserved : goal.loop-m-preserved
loop-m-preserved c = holds_rest c.args.graph.now c.loop-m.rest c.without-rest.result c.in-Some.m.0 c.loop-m.invariant c.in-Some.ensures.2 c.without-rest.ensures.members
