use Rattle.std.proofs.Common.{rules}
use Rattle.lock_order.proofs.Words.{minus-bits}
use Rattle.lock_order.proofs.mutex_set.MutexSet.minus.Goals as goal

pub returns : goal.returns
returns c = λ k. minus-bits c.args.self.bits c.args.other.bits k (search rules) (search rules)
