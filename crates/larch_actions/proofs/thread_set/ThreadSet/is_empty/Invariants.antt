use Rattle.larch_actions.proofs.Sets.{AreNone}
use Rattle.larch_actions.proofs.thread_set.ThreadSet.is_empty.Given as goal

abbrev pub invariant-loop-i : goal.invariant-loop-i
invariant-loop-i l = AreNone l.self.words l.i
