use Rattle.std.proofs.Common.{length}
use Rattle.example_sum.proofs.tree.+add_all+fn-add_all-join+arg2+fn-add_all-join+arg3.Given as goal

abbrev pub decreases-add_all : goal.decreases-add_all
decreases-add_all g l = length l.numbers.now

abbrev pub decreases-join+arg2 : goal.decreases-join+arg2
decreases-join+arg2 g l = length l.front.now

abbrev pub decreases-join+arg3 : goal.decreases-join+arg3
decreases-join+arg3 g l = length l.back.now
