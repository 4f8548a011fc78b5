use Rattle.std.proofs.Common.{◌+◌, ◌-◌, length}
use Rattle.word_index.proofs.Searches.{Apart}
use Rattle.word_index.proofs.piece.Piece.meets.Given as goal

abbrev pub invariant-loop-i : goal.invariant-loop-i
invariant-loop-i l = Apart l.self-inside.paths l.other-inside.paths l.i l.j

abbrev pub decreases-loop-i : goal.decreases-loop-i
decreases-loop-i l = length l.self-inside.paths + length l.other-inside.paths - (l.i + l.j)
