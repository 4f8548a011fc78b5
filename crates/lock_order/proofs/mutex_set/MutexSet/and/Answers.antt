use Rattle.lock_order.proofs.Words.{and-bits}
use Rattle.lock_order.proofs.mutex_set.MutexSet.and.Goals as goal

pub returns : goal.returns
returns c = and-bits c.args.self.bits c.args.other.bits
