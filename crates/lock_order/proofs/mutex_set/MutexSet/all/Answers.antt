use Rattle.lock_order.proofs.Words.{all-bits}
use Rattle.lock_order.proofs.mutex_set.MutexSet.all.Goals as goal

pub returns : goal.returns
returns c = all-bits
