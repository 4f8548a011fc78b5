use Rattle.std.proofs.Common.{◌≡◌, take}
use Rattle.lock_order.specs.Order.{first_or}
use Rattle.lock_order.specs.Circles.{links}
use Rattle.lock_order.proofs.cycle.cycle_of.Given as goal

abbrev pub invariant-loop-k : goal.invariant-loop-k
invariant-loop-k l = l.cycle ≡ take l.k (links l.graph l.circle (first_or 0 l.circle))
