use Rattle.std.proofs.Common.{◌≡◌, ◌++◌, length}
use Rattle.std.specs.Vec.Iter.{into_iter_items, into_iter_len}
use Rattle.index_findings.specs.Pieces.{AreMergedFrom}
use Rattle.index_findings.proofs.whole_piece.whole_of.Given as goal

abbrev pub invariant-loop-piece : goal.invariant-loop-piece
invariant-loop-piece l =
    record {
      left : into_iter_len l.piece-iterator ≡ length (into_iter_items l.piece-iterator);
      merged : AreMergedFrom (into_iter_items l.initial.piece-iterator) (l.kept.items ++ into_iter_items l.piece-iterator);
    }
