-- What a parser has done with the files that it read.
use Rattle.std.specs.Prelude.{◌≡◌, ℕ, Bool, false, List, [], Option, None, All}
use Rattle.firefly_outside.specs.Trees.{Path, Contents, Calls}
use Rattle.firefly_outside.specs.declared.tree.Kind.TheVariants.{File as FileKind}
use Rattle.word_index.specs.Index.{Index}
use Rattle.index_findings.specs.declared.findings.Fault.{Fault}
use Rattle.index_findings.specs.declared.read_files.ReadFile.{ReadFile}
use Rattle.index_findings.specs.ReadFiles.{AreRead}
use Rattle.index_findings.specs.Pieces.{IsFilesPiece}
use Rattle.indexer.specs.Turns.{Worker, Run, HasCalled}
use Rattle.indexer.specs.Walks.{HasDone}

-- the worker made a call, and handed pieces on or kept them with others
pub record HasGiven (tree : Option Contents) (root : Path) (p : Run) (m : ℕ) (old new : List Index) (a b : Worker) : Type 0 where
  pub called : HasCalled tree root [] p m 0 a b
  pub kept : All (IsFilesPiece tree root) old → All (IsFilesPiece tree root) new

-- these were pieces of the files of a list of read files, which now has these files
pub record HasPassed (tree : Option Contents) (root : Path) (p : Run) (m : ℕ) (files : List ReadFile) (old new : List Index) (a b : Worker) :
    Type 0 where
  pub read : AreRead tree files
  pub given : HasGiven tree root p m old new a b

module _ {S : Type 0} (tree : S → Option Contents) (weak : S → List Path) (faults : S → ℕ) (calls : S → Calls) (root : Path) where
  -- a parser took files, read them with the tree into a list of read files, which now has these, and made pieces
  -- of others, which it handed on or kept; this failed, if anything did, and something may be lost
  pub record HasParsed (p : Run) (old new : S) (files : List ReadFile) (held more : List Index) (a b : Worker) (fault : Option Fault)
      (lost : Bool) : Type 0 where
    pub tree_stays : tree new ≡ tree old
    pub weak_stays : weak new ≡ weak old
    pub read : AreRead (tree old) files
    pub kept : All (IsFilesPiece (tree old) root) held → All (IsFilesPiece (tree old) root) more
    pub done : (count : ℕ) (before : Calls) (c : Worker)
        → HasDone FileKind (tree old) root (weak old) count (faults old) before (calls old) p 0 c a [] [] None false
        → HasDone FileKind (tree old) root (weak old) count (faults new) before (calls new) p 0 c b [] [] fault lost
