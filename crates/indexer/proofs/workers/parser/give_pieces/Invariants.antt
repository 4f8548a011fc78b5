use Rattle.std.proofs.Common.{◌≡◌, All, List, ℕ, Option, length}
use Rattle.std.specs.Vec.Iter.{into_iter_items, into_iter_len}
use Rattle.firefly_outside.specs.Trees.{Path, Contents}
use Rattle.index_findings.specs.Pieces.{IsFilesPiece}
use Rattle.indexer.specs.Gets.{Gets, OfShare, nothing}
use Rattle.indexer.specs.ReadFiles.{HasGiven}
use Rattle.indexer.specs.States.{MayPutPieces}
use Rattle.indexer.proofs.ParseShares.{IsUnderWay}
use Rattle.indexer.proofs.workers.parser.give_pieces.Given as goal

abbrev pub invariant-loop-piece : goal.invariant-loop-piece
invariant-loop-piece g l =
    record {
      left : into_iter_len l.piece-iterator ≡ length (into_iter_items l.piece-iterator);
      put : List Path;
      gets : Gets l.p (record nothing { pieces_put = put }) l.fn.me l.me;
      way : IsUnderWay l.p.world (into_iter_items l.initial.piece-iterator) (into_iter_items l.piece-iterator) put l.fn.kept.items l.kept.items;
      may : OfShare l.me (MayPutPieces l.p.world (into_iter_items l.piece-iterator));
      given : (o : Option Contents) (root : Path) (m : ℕ) → All (IsFilesPiece o root) (into_iter_items l.initial.piece-iterator)
          → All (IsFilesPiece o root) (into_iter_items l.piece-iterator) × HasGiven o root l.p m l.fn.kept.items l.kept.items l.fn.me l.me;
    }
