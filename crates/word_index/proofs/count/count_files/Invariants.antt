use Rattle.word_index.proofs.Counting.{CountsFrom}
use Rattle.word_index.proofs.count.count_files.Given as goal

abbrev pub invariant-loop-at : goal.invariant-loop-at
invariant-loop-at l = CountsFrom l.lows l.at l.words l.links.items

abbrev pub decreases-loop-at : goal.decreases-loop-at
decreases-loop-at l = l.at
