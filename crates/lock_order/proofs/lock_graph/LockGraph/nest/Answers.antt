use Rattle.std.proofs.Common.{refl, rules}
use Rattle.lock_order.proofs.Tables.{nesting_starts, nesting_goes, nesting_ends}
use Rattle.lock_order.proofs.lock_graph.LockGraph.nest.Goals as goal

pub loop-thread-init : goal.loop-thread-init
loop-thread-init c = nesting_starts c.args.self.now c.args.new c.args.thread.0 c.args.inner.0 c.args.place

pub loop-thread-preserved : goal.loop-thread-preserved
loop-thread-preserved c =
    nesting_goes c.args.self.now c.loop-thread.self c.args.new c.loop-thread.rest c.without-rest.result (record { thread = c.args.thread; place = c.args.place }) c.args.inner.0 c.first-outer.result.0
    c.loop-thread.invariant c.first-outer.ensures.here c.first-outer.ensures.low c.without-rest.ensures.members (search rules)

pub returns : goal.returns
returns c =
    nesting_ends c.args.self.now c.loop-thread.self c.args.new c.loop-thread.rest c.or.result c.args.thread.0 c.args.inner.0 c.args.place
    c.loop-thread.invariant (c.loop-thread-test.ensures.none refl) (search rules) c.or.ensures
