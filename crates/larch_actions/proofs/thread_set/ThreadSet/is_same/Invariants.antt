use Rattle.larch_actions.proofs.Sets.{AreSame}
use Rattle.larch_actions.proofs.thread_set.ThreadSet.is_same.Given as goal

abbrev pub invariant-loop-i : goal.invariant-loop-i
invariant-loop-i l = AreSame l.self.words l.other.words l.i
