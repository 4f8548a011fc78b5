-- Files that were read, on the way to their pieces.
use Rattle.std.specs.Prelude.{◌≡◌, ◌<◌, ◌≤◌, ◌⊎◌, Bool, List, Option, IfSome, IsTrue, Contains, All, vec_len}
use Rattle.firefly_outside.specs.Trees.{Path, Contents, IsFile, child}
use Rattle.firefly_outside.specs.declared.tree.FileBytes.{FileBytes}
use Rattle.walker.specs.Pile.{AreApart}
use Rattle.walker.specs.TreeIndex.{IsFileAt}
use Rattle.word_index.specs.Batch.{Held, HoldsFiles}
use Rattle.word_index.specs.Index.{File, Index}
use Rattle.index_findings.specs.declared.read_files.ReadFiles.{ReadFiles}
use Rattle.index_findings.specs.declared.read_files.ReadFile.{ReadFile}
use Rattle.index_findings.specs.Pieces.{IsCovered}

-- the file was read so, where the tree shows its contents
abbrev pub IsRead : Option Contents → Path → FileBytes → Type 0
IsRead tree path file = IfSome tree (λ t. IsFile t path file)

-- so was each of these
abbrev pub AreRead : Option Contents → List ReadFile → Type 0
AreRead tree files = All (λ r. IsRead tree r.path r.file) files

-- pieces are to be made of the read files: it has files, and enough of them or of their bytes, or no more are to come
abbrev pub IsDue : ReadFiles → Bool → Type 0
IsDue loaded last = (0 < vec_len loaded.files) × (IsTrue last ⊎ (8192 ≤ vec_len loaded.files) ⊎ (1048576 ≤ loaded.bytes))

-- the file of one of these lies at this path below the root
pub record IsReadAt (root : Path) (files : List ReadFile) (path : Path) : Type 0 where
  pub read : ReadFile
  pub among : Contains files read
  pub is : read.path ≡ child root path

-- one of the pieces covers the path, or a file of the batch has it
abbrev pub IsHeldAt : List Index → Held → Path → Type 0
IsHeldAt pieces held path = IsCovered pieces path ⊎ Contains held.paths path

-- no path is covered twice, by two of the pieces or by one of them and the batch
pub record AreHeldOnce (pieces : List Index) (held : Held) : Type 0 where
  pub apart : AreApart pieces
  pub ahead : (path : Path) → IsCovered pieces path → ¬ Contains held.paths path

-- the batch holds files that the tree has so below the root
pub record HoldsRead (tree : Option Contents) (root : Path) (held : Held) : Type 0 where
  pub files : List File
  pub holds : HoldsFiles files held
  pub reported : IfSome tree (λ t. (f : File) → Contains files f → IsFileAt t root f)
