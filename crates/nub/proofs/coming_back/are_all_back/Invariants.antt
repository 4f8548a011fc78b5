use Rattle.std.proofs.Common.{◌≡◌, ◌<◌, ◌++◌, ℕ}
use Rattle.nub.specs.Totals.{times}
use Rattle.nub.proofs.coming_back.are_all_back.Given as goal

abbrev pub invariant-loop-number : goal.invariant-loop-number
invariant-loop-number g l = (n : ℕ) → n < l.number → times n (l.ended.items ++ l.unborn.items) ≡ 1
