use Rattle.std.proofs.Common.{length, ◌-◌}
use Rattle.word_index.proofs.Counting.{CountsFile}
use Rattle.word_index.proofs.count.count_file.Given as goal

abbrev pub invariant-loop-run : goal.invariant-loop-run
invariant-loop-run l = CountsFile l.low l.at l.line l.path l.initial.words l.initial.links.items l.words l.links.items

abbrev pub decreases-loop-run : goal.decreases-loop-run
decreases-loop-run l = length l.low - l.at
