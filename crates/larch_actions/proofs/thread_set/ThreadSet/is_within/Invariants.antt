use Rattle.larch_actions.proofs.Sets.{AreWithin}
use Rattle.larch_actions.proofs.thread_set.ThreadSet.is_within.Given as goal

abbrev pub invariant-loop-i : goal.invariant-loop-i
invariant-loop-i l = AreWithin l.self.words l.other.words l.i
