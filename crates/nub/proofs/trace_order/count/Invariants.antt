use Rattle.std.proofs.Common.{◌≡◌, length, sum_by, take}
use Rattle.nub.proofs.trace_order.count.Given as goal

abbrev pub invariant-loop-s : goal.invariant-loop-s
invariant-loop-s l = l.total ≡ sum_by (λ s. length s.entries.items) (take l.s-index l.stored)
