use Rattle.std.proofs.Common.{◌≤◌, ◌*◌, sum}
use Rattle.example_sum.proofs.numbers_to.Given as goal

abbrev pub invariant-loop-i : goal.invariant-loop-i
invariant-loop-i l = sum l.numbers.items ≤ l.i * 65536
