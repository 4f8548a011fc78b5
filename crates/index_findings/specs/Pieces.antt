-- Pieces of the index of a tree.
use Rattle.std.specs.Prelude.{List, Option, IfSome, Contains, All, ◌↔◌}
use Rattle.firefly_outside.specs.Trees.{Path, Contents}
use Rattle.walker.specs.Pile.{AreApart}
use Rattle.walker.specs.TreeIndex.{IsFileAt}
use Rattle.word_index.specs.Index.{File, Index, IsIndexOf}

-- the piece is the index of files that the tree has so below the root
pub record IsFilesPiece (tree : Option Contents) (root : Path) (piece : Index) : Type 0 where
  pub files : List File
  pub index : IsIndexOf files piece
  pub reported : IfSome tree (λ t. (f : File) → Contains files f → IsFileAt t root f)

-- one of the pieces covers the path
pub record IsCovered (pieces : List Index) (path : Path) : Type 0 where
  pub piece : Index
  pub among : Contains pieces piece
  pub covers : Contains piece.paths path

-- what pieces become by being merged: they are of files such as those before were of, cover the same paths, and none of them twice where none
-- was covered twice
pub record AreMergedFrom (old new : List Index) : Type 0 where
  pub files : (tree : Option Contents) (root : Path) → All (IsFilesPiece tree root) old → All (IsFilesPiece tree root) new
  pub covers : (path : Path) → IsCovered new path ↔ IsCovered old path
  pub apart : AreApart old → AreApart new
