use Rattle.std.proofs.Common.{rules}
use Rattle.lock_order.proofs.Words.{none_or_some}
use Rattle.lock_order.proofs.mutex_set.MutexSet.is_empty.Goals as goal

pub returns : goal.returns
returns c = let h = none_or_some c.args.self.bits (search rules) in record { none = h.0; some = h.1 }
