use Rattle.std.proofs.Common.{◌≡◌, ◌≢◌, ◌⊎◌, All, AllPairs, Option, length}
use Rattle.std.specs.Prelude.{◌↔◌}
use Rattle.std.specs.Vec.Iter.{into_iter_items, into_iter_len}
use Rattle.firefly_outside.specs.Trees.{Path, Contents}
use Rattle.index_findings.specs.ReadFiles.{AreRead, HoldsRead, IsHeldAt, IsReadAt}
use Rattle.index_findings.specs.Pieces.{IsFilesPiece}
use Rattle.index_findings.proofs.OnceLaws.{AreOnce, paths_read}
use Rattle.index_findings.proofs.read_files.pieces_of.Given as goal

abbrev pub invariant-loop-read : goal.invariant-loop-read
invariant-loop-read l =
    record {
      files : (o : Option Contents) → AreRead o (into_iter_items l.initial.read-iterator) → All (IsFilesPiece o l.root) l.pieces.items × HoldsRead o l.root l.batch × AreRead o (into_iter_items l.read-iterator);
      left : into_iter_len l.read-iterator ≡ length (into_iter_items l.read-iterator);
      once : AllPairs (λ p q. p ≢ q) (paths_read (into_iter_items l.initial.read-iterator)) → AreOnce l.root l.pieces.items l.batch (into_iter_items l.read-iterator);
      covers : (path : Path) → (IsHeldAt l.pieces.items l.batch path ⊎ IsReadAt l.root (into_iter_items l.read-iterator) path) ↔ IsReadAt l.root (into_iter_items l.initial.read-iterator) path;
    }
