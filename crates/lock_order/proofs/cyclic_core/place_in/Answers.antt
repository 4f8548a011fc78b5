use Rattle.std.proofs.Common.{arith}
use Rattle.lock_order.proofs.Members.{absent_from}
use Rattle.lock_order.proofs.cyclic_core.place_in.Goals as goal

pub returns : goal.returns
returns c = absent_from c.args.list.now c.args.number (λ j low e. c.loop-k.invariant j (omega arith) e)
