-- What a thread of an index run did at the list of directories and at the buffers, as its share says.
use Rattle.std.specs.Prelude.{◌≡◌, ◌⊎◌, ℕ, List, [], ◌∷◌, map, Contains, All}
use Rattle.std.specs.List.{flat_map}
use Rattle.bounded_buffer.specs.declared.did.Did.{Did}
use Rattle.bounded_buffer.specs.declared.note.Note.{Note}
use Rattle.bounded_buffer.specs.Plain.{note, part_of, kept}
use Rattle.firefly_outside.specs.Trees.{Path, child}
use Rattle.word_index.specs.Index.{Index}
use Rattle.index_rule.specs.Children.{IsChildOf}
use Rattle.index_rule.specs.Distinct.{AreDisjoint, AreDistinct}
use Rattle.index_rule.specs.declared.value.IndexItem.{IndexItem}
use Rattle.index_rule.specs.declared.value.IndexItem.TheVariants.{File, Piece}

-- the directories that the thread took from the list and those that it put there, how many files it
-- counted there, and all that it did at the buffers, each with the last first
pub record Share : Type 0 where
  pub took : List Path
  pub put : List Path
  pub files : ℕ
  pub notes : List (Note IndexItem)

-- the share of a thread that has done nothing
abbrev pub blank : Share
blank = record { took = []; put = []; files = 0; notes = [] }

-- the paths of the files that the piece covers
abbrev pub covered : Path → Index → List Path
covered root piece = map (child root) piece.paths

-- the files that an item is about
abbrev pub paths_of : Path → IndexItem → List Path
paths_of root (File path) = path ∷ []
paths_of root (Piece piece) = covered root piece

abbrev pub paths_in : Path → List (ℕ × IndexItem) → List Path
paths_in root pairs = flat_map (λ p. paths_of root p.1) pairs

-- the files of the items that the thread put under the mutex, and of those that it took there
abbrev pub paths_put : Path → ℕ → Share → List Path
paths_put root m s = paths_in root (part_of s.notes m).puts

abbrev pub paths_taken : Path → ℕ → Share → List Path
paths_taken root m s = paths_in root (part_of s.notes m).takes

-- the file is with this thread: in a piece that it has, or the file itself, if the thread put no
-- piece of it
abbrev pub IsHeldBy : Path → Share → Path → Type 0
IsHeldBy root s p = Contains (paths_taken root 2 s) p ⊎ (Contains (paths_taken root 1 s) p × (¬ Contains (paths_put root 2 s) p))

-- a child of a directory that the thread took
pub record IsChildOfTook (s : Share) (p : Path) : Type 0 where
  pub dir : Path
  pub took : Contains s.took dir
  pub is : IsChildOf p dir

-- files go through buffer 1, and pieces through buffer 2
abbrev pub IsItemAt : ℕ → IndexItem → Type 0
IsItemAt m (File path) = m ≡ 1
IsItemAt m (Piece piece) = m ≡ 2

-- what the thread put into a buffer belongs there; the directories that it put are children of
-- those that it took, and so are the files, each of which it put once; and it took each file that a
-- piece which it put covers, and put no second piece of that file
pub record KeepsOwn (root : Path) (s : Share) : Type 0 where
  pub kinds : (m : ℕ) → All (λ p. IsItemAt m p.1) (part_of s.notes m).puts
  pub dirs : All (IsChildOfTook s) s.put
  pub files : All (IsChildOfTook s) (paths_put root 1 s)
  pub files_once : AreDistinct (paths_put root 1 s)
  pub pieces : All (Contains (paths_taken root 1 s)) (paths_put root 2 s)
  pub pieces_once : AreDistinct (paths_put root 2 s)

-- the origin of an item that the thread may put: a file is a child of a directory that it took, and
-- it took each file of a piece
abbrev pub IsFrom : Path → Share → IndexItem → Type 0
IsFrom root s (File path) = IsChildOfTook s path
IsFrom root s (Piece piece) = All (Contains (paths_taken root 1 s)) (covered root piece)

-- and no item put before has its files
pub record MayPut (root : Path) (m : ℕ) (i : IndexItem) (s : Share) : Type 0 where
  pub kind : IsItemAt m i
  pub from : IsFrom root s i
  pub once : AreDistinct (paths_of root i)
  pub new : AreDisjoint (paths_of root i) (paths_put root m s)

-- the share with one more note
abbrev pub noted : ℕ → Did IndexItem → Share → Share
noted m d s = record s { notes = note m d ∷ s.notes }

-- the shares differ only in their counts of waits
pub record AreAlike (s r : Share) : Type 0 where
  pub took : s.took ≡ r.took
  pub put : s.put ≡ r.put
  pub files : s.files ≡ r.files
  pub notes : kept s.notes ≡ kept r.notes
