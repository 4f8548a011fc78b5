use Rattle.std.proofs.Common.{[], ◌∷◌, ◌++◌, vec_len}
use Rattle.index_findings.specs.Pieces.{AreMergedFrom}
use Rattle.index_findings.proofs.whole_piece.join_all.Given as goal

abbrev pub invariant-loop-piece : goal.invariant-loop-piece
invariant-loop-piece l = AreMergedFrom l.fn.kept.items (l.kept.items ++ l.whole ∷ [])

abbrev pub decreases-loop-piece : goal.decreases-loop-piece
decreases-loop-piece l = vec_len l.kept
