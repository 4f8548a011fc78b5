use Rattle.std.proofs.Common.{◌-◌}
use Rattle.word_index.proofs.Searches.{Searching}
use Rattle.word_index.proofs.piece.Piece.covers.Given as goal

abbrev pub invariant-loop-low : goal.invariant-loop-low
invariant-loop-low l = Searching l.self-inside.paths l.path l.low l.high

abbrev pub decreases-loop-low : goal.decreases-loop-low
decreases-loop-low l = l.high - l.low
