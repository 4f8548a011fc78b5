use Rattle.std.proofs.Common.{◌≡◌, ◌≤◌, take}
use Rattle.nub.specs.Totals.{times}
use Rattle.nub.proofs.coming_back.times_ended.Given as goal

abbrev pub invariant-loop-i : goal.invariant-loop-i
invariant-loop-i g l = (l.count ≡ times l.number (take l.i l.ended.items)) × (l.count ≤ l.i)
