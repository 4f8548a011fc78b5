use Rattle.lock_order.proofs.Tables.{starts}
use Rattle.lock_order.proofs.lock_graph.LockGraph.new.Goals as goal

pub returns : goal.returns
returns c = λ v. starts c.empty-none.result c.empty-none.ensures v
