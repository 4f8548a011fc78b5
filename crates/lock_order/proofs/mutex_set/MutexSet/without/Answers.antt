use Rattle.std.proofs.Common.{rules}
use Rattle.lock_order.proofs.Words.{fewer-bits, without-bit}
use Rattle.lock_order.proofs.mutex_set.MutexSet.without.Goals as goal

pub returns : goal.returns
returns c = record {
  members = λ k. without-bit c.args.self.bits c.args.m.0 k c.requires (search rules);
  fewer = fewer-bits c.args.self.bits c.args.m.0 c.requires;
}
