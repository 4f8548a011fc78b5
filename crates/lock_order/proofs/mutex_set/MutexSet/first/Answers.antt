use Rattle.std.proofs.Common.{rules}
use Rattle.lock_order.proofs.Words.{first-bit, some-bits}
use Rattle.lock_order.proofs.mutex_set.MutexSet.first.Goals as goal

pub returns : goal.returns
returns c =
    let some = some-bits c.args.self.bits c.requires.0 c.requires.1 in
    let h = first-bit c.args.self.bits some (search rules) in record { here = h.0; low = h.1 }
