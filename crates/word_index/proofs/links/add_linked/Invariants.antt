use Rattle.word_index.proofs.Chains.{Following}
use Rattle.word_index.proofs.links.add_linked.Given as goal

abbrev pub invariant-loop-n : goal.invariant-loop-n
invariant-loop-n l = Following l.links l.fn.last l.fn.out.items l.n l.out.items

abbrev pub decreases-loop-n : goal.decreases-loop-n
decreases-loop-n l = l.n
