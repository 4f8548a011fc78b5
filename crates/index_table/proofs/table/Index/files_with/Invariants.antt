use Rattle.std.proofs.Common.{◌-◌}
use Rattle.word_index.proofs.Searches.{Searching}
use Rattle.index_table.proofs.table.Index.files_with.Given as goal

abbrev pub invariant-loop-low : goal.invariant-loop-low
invariant-loop-low l = Searching l.self-inside.words l.word l.low l.high

abbrev pub decreases-loop-low : goal.decreases-loop-low
decreases-loop-low l = l.high - l.low
