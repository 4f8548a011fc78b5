use Rattle.std.proofs.Common.{rules}
use Rattle.lock_order.proofs.Legal.{exact_at}
use Rattle.lock_order.proofs.order.lock_order.Goals as goal

pub returns-clause-exact : goal.returns-clause-exact
returns-clause-exact g c = λ bytes answer reported v w j. exact_at _ _ _ _ _ bytes c.order_all.result answer c.requires reported v w (search rules) j
