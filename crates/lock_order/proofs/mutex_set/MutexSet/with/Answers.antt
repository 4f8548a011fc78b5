use Rattle.lock_order.proofs.Words.{with-bit}
use Rattle.lock_order.proofs.mutex_set.MutexSet.with.Goals as goal

pub returns : goal.returns
returns c = λ k. with-bit c.args.self.bits c.args.m.0 k c.requires
