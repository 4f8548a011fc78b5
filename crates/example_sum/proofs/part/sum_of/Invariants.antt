use Rattle.std.proofs.Common.{◌≡◌, sum, take}
use Rattle.example_sum.proofs.part.sum_of.Given as goal

abbrev pub invariant-loop-one : goal.invariant-loop-one
invariant-loop-one l = l.all ≡ sum (take l.one-index l.numbers)
