use Rattle.lock_order.proofs.Words.{or-bits}
use Rattle.lock_order.proofs.mutex_set.MutexSet.or.Goals as goal

pub returns : goal.returns
returns c = or-bits c.args.self.bits c.args.other.bits
