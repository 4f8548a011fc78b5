use Rattle.std.proofs.Common.{◌≡◌, false}
use Rattle.std.specs.List.{AllWithin}
use Rattle.nub.proofs.trace_order.are_whole.Given as goal

abbrev pub invariant-loop-s : goal.invariant-loop-s
invariant-loop-s l = AllWithin (λ s. s.lost ≡ false) l.stored 0 l.s-index
