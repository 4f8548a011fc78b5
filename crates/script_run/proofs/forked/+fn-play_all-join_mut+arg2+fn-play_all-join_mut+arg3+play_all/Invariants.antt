use Rattle.std.proofs.Common.{length}
use Rattle.script_run.proofs.forked.+fn-play_all-join_mut+arg2+fn-play_all-join_mut+arg3+play_all.Given as goal

abbrev pub decreases-join_mut+arg2 : goal.decreases-join_mut+arg2
decreases-join_mut+arg2 g l = length l.rest.now

abbrev pub decreases-join_mut+arg3 : goal.decreases-join_mut+arg3
decreases-join_mut+arg3 g l = length l.first.now

abbrev pub decreases-play_all : goal.decreases-play_all
decreases-play_all g l = length l.slots.now
