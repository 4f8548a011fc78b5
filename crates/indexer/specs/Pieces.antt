-- The pieces among the items that threads put and took.
use Rattle.std.specs.Prelude.{ℕ, Option, All}
use Rattle.bounded_buffer.specs.Plain.{part_of}
use Rattle.firefly_outside.specs.Trees.{Path, Contents}
use Rattle.index_findings.specs.Pieces.{IsFilesPiece}
use Rattle.index_rule.specs.declared.value.IndexItem.{IndexItem}
use Rattle.index_rule.specs.declared.value.IndexItem.TheVariants.{File as FileItem, Piece as PieceItem}
use Rattle.index_rule.specs.Shares.{Share}

-- the item is a piece of files of the tree
abbrev pub IsPieceItem : Option Contents → Path → IndexItem → Type 0
IsPieceItem tree root (FileItem path) = ⊥
IsPieceItem tree root (PieceItem piece) = IsFilesPiece tree root piece

-- each item that the thread put at this mutex, as the share says, fits
abbrev pub AllPut : (IndexItem → Type 0) → ℕ → Share → Type 0
AllPut fits m s = All (λ p. fits p.1) (part_of s.notes m).puts

-- and so does each item that it took there
abbrev pub AllTaken : (IndexItem → Type 0) → ℕ → Share → Type 0
AllTaken fits m s = All (λ p. fits p.1) (part_of s.notes m).takes
