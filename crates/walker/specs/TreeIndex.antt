-- The index of the files of a tree.
use Rattle.std.specs.Prelude.{◌≡◌, ℕ, List, Some, Option, IfSome, Contains, [], if◌then◌else◌}
use Rattle.firefly_outside.specs.Trees.{Path, Contents, Bytes, child, is_long}
use Rattle.firefly_outside.specs.Under.{IsUnder}
use Rattle.firefly_outside.specs.declared.tree.Kind.TheVariants.{File as a_file}
use Rattle.word_index.specs.Index.{File, Index, IsIndexOf}
use Rattle.walker.specs.Walk.{Walk}

-- a file of these bytes as it is read
abbrev pub shown_file : Path → List ℕ → File
shown_file path bytes = record { path = path; bytes = (if is_long bytes then [] else bytes); long = is_long bytes }

-- the tree has this file below the root
pub record IsFileAt (t : Contents) (root : Path) (f : File) : Type 0 where
  pub bytes : List ℕ
  pub here : t (child root f.path) ≡ Some (Bytes bytes)
  pub shown : f ≡ shown_file f.path bytes

-- the index of all files under the root
pub record IsTreeIndex (t : Contents) (root : Path) (piece : Index) : Type 0 where
  pub files : List File
  pub index : IsIndexOf files piece
  pub under : (f : File) → Contains files f → IsUnder t root a_file (child root f.path)
  pub reported : (f : File) → Contains files f → IsFileAt t root f
  pub all : (p : Path) → IsUnder t root a_file p → (f : File) × Contains files f × (p ≡ child root f.path)

-- the piece is the index of files that the walk has found, and that the tree has so
pub record IsPartOf (tree : Option Contents) (w : Walk) (piece : Index) : Type 0 where
  pub files : List File
  pub index : IsIndexOf files piece
  pub found : (f : File) → Contains files f → Contains w.files f.path
  pub reported : IfSome tree (λ t. (f : File) → Contains files f → IsFileAt t w.root f)
