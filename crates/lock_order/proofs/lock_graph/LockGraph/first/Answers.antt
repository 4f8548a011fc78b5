use Rattle.std.proofs.Common.{rules}
use Rattle.lock_order.proofs.Tables.{first_is}
use Rattle.lock_order.proofs.lock_graph.LockGraph.first.Goals as goal

pub returns : goal.returns
returns c = first_is c.args.self.now c.args.outer c.args.inner (search rules)
