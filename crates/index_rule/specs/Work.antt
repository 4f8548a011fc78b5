-- The values of an index run's mutexes, and their rule: each directory is listed once and each file
-- is read once.
use Rattle.std.specs.Prelude.{◌≡◌, ◌≢◌, ◌⊎◌, ℕ, ◌+◌, ◌-◌, List, [], ◌∷◌, ◌++◌, length, map, drop, Option, Some, None, All}
use Rattle.std.specs.List.{flat_map, sum_by}
use Rattle.std.specs.List.Sorted.{IsPermutation}
use mathlib.Core.Option.{some}
use lib.ListN.{get_elem?}
use Rattle.bounded_buffer.specs.declared.at.BufferAt.{BufferAt}
use Rattle.bounded_buffer.specs.declared.did.Did.{Did}
use Rattle.bounded_buffer.specs.declared.did.Did.TheVariants.{Put}
use Rattle.bounded_buffer.specs.declared.note.Note.{Note}
use Rattle.bounded_buffer.specs.Parts.{IsWithin}
use Rattle.bounded_buffer.specs.Plain.{Keeps, part_of}
use Rattle.bounded_buffer.specs.Rings.{Held, Does, fresh}
use Rattle.firefly_outside.specs.Trees.{Path}
use Rattle.index_rule.specs.Children.{IsBelow}
use Rattle.index_rule.specs.Distinct.{AreDisjoint, AreDistinct}
use Rattle.index_rule.specs.Shares.{Share, paths_of, paths_taken, KeepsOwn, IsChildOfTook, IsItemAt, MayPut, noted}
use Rattle.index_rule.specs.declared.value.IndexItem.{IndexItem}
use Rattle.index_rule.specs.declared.value.IndexValue.{IndexValue}
use Rattle.index_rule.specs.declared.value.IndexValue.TheVariants.{Dirs, Ring}

abbrev pub ring_in : IndexValue → Option (Held IndexItem)
ring_in (Dirs d) = None
ring_in (Ring q) = Some q

-- the ring that represents a value in the rule of rings; for the directories, a ring at which
-- nothing is ever done
abbrev pub ring_of : IndexValue → Held IndexItem
ring_of (Dirs d) = fresh 1
ring_of (Ring q) = q

-- the directories that wait to be listed
abbrev pub waiting_of : IndexValue → List Path
waiting_of (Dirs d) = d.list.waiting.items
waiting_of (Ring q) = []

-- how many directories and files were found
abbrev pub dirs_of : IndexValue → ℕ
dirs_of (Dirs d) = d.found.dirs
dirs_of (Ring q) = 0

abbrev pub files_of : IndexValue → ℕ
files_of (Dirs d) = d.found.files
files_of (Ring q) = 0

-- the directories that wait, which are in the value of the first mutex
abbrev pub waiting_in : List IndexValue → List Path
waiting_in [] = []
waiting_in (v ∷ values) = waiting_of v

-- mutex 0 protects the directories in work, and each other mutex a ring
abbrev pub IsAfter : ℕ → IndexValue → Type 0
IsAfter m (Dirs d) = m ≡ 0
IsAfter m (Ring q) = m ≢ 0

-- a count in the value of the first mutex
abbrev pub first_count : (IndexValue → ℕ) → List IndexValue → ℕ
first_count count [] = 0
first_count count (v ∷ values) = count v

abbrev pub all_took : List Share → List Path
all_took shares = flat_map (λ s. s.took) shares

abbrev pub all_put : List Share → List Path
all_put shares = flat_map (λ s. s.put) shares

abbrev pub all_files : List Share → ℕ
all_files shares = sum_by (λ s. s.files) shares

abbrev pub notes_of : List Share → List (List (Note IndexItem))
notes_of shares = map (λ s. s.notes) shares

-- each mutex has a value of its kind, and each buffer keeps the rule of buffers; the directories
-- that wait and those that were taken are the root and those that were put, each once; these are as
-- many as were counted, and so are the files; and each thread put only what it may
pub record KeepsWork (root : Path) (values : List IndexValue) (shares : List Share) : Type 0 where
  pub kinds : (m : ℕ) (v : IndexValue) → get_elem? values m ≡ some v → IsAfter m v
  pub rings : Keeps (map ring_of values) (notes_of shares)
  pub dirs : IsPermutation (waiting_in values ++ all_took shares) (root ∷ all_put shares)
  pub once : AreDistinct (waiting_in values ++ all_took shares)
  pub dirs_counted : first_count dirs_of values ≡ 1 + length (all_put shares)
  pub files_counted : first_count files_of values ≡ all_files shares
  pub own : All (KeepsOwn root) shares

-- the files of the items of a ring
abbrev pub paths_at : Path → Held IndexItem → List Path
paths_at root q = flat_map (paths_of root) q.items

-- what is there belongs there, and is new to the thread
abbrev pub IsNewTo : Path → ℕ → Share → IndexValue → Type 0
IsNewTo root m s (Dirs d) = AreDistinct (d.list.waiting.items ++ s.took)
IsNewTo root m s (Ring q) = All (IsItemAt m) q.items
    × ((m ≡ 1) ⊎ (m ≡ 2) → AreDistinct (paths_at root q ++ paths_taken root m s) × All (IsBelow root) (paths_at root q))

pub record FitsWork (root : Path) (m : ℕ) (v : IndexValue) (s : Share) : Type 0 where
  pub kind : IsAfter m v
  pub within : IsWithin (part_of s.notes m) (ring_of v)
  pub new : IsNewTo root m s v

-- the list goes from xs to ys: directories are taken from its end, and others put there, which are
-- new children of directories that the thread took
pub record MovesDirs (xs ys : List Path) (s r : Share) : Type 0 where
  pub rest : List Path
  pub gone : List Path
  pub come : List Path
  pub was : xs ≡ rest ++ gone
  pub is : ys ≡ rest ++ come
  pub share : r ≡ record s { took = gone ++ s.took; put = come ++ s.put; files = r.files }
  pub from : All (IsChildOfTook s) come
  pub once : AreDistinct come
  pub new : AreDisjoint come s.put

-- the counts go from those of x to those of y: they grow by the directories that the share put in
-- addition, and by the files that it counted in addition
pub record MovesCounts (x y : IndexValue) (s r : Share) : Type 0 where
  pub dirs : dirs_of y + length s.put ≡ dirs_of x + length r.put
  pub files : files_of y + s.files ≡ files_of x + r.files

-- a thread that puts an item may put it
abbrev pub MayDo : Path → ℕ → Did IndexItem → Share → Type 0
MayDo root m (Put n i) s = MayPut root m i s
MayDo root m d s = Unit {0}

-- a ring and the share stay, or the thread did something that it may do, and its share has a note
-- of that
abbrev pub MovesItems : Path → ℕ → Held IndexItem → Held IndexItem → Share → Share → Type 0
MovesItems root m q p s r = ((p ≡ q) × (r ≡ s)) ⊎ ((d : Did IndexItem) × Does d q p × MayDo root m d s × (r ≡ noted m d s))

abbrev pub Moves : Path → ℕ → IndexValue → IndexValue → Share → Share → Type 0
Moves root m (Dirs d) (Dirs e) s r = MovesDirs d.list.waiting.items e.list.waiting.items s r × MovesCounts (Dirs d) (Dirs e) s r
Moves root m (Ring q) (Ring p) s r = MovesItems root m q p s r
Moves root m x y s r = ⊥

pub record MayChange (root : Path) (m : ℕ) (x y : IndexValue) (s r : Share) : Type 0 where
  pub kind : IsAfter m y
  pub moves : Moves root m x y s r

-- the share after the list went from xs to ys, by what left its end or was put there, and this many
-- files were counted
abbrev pub moved : List Path → List Path → ℕ → Share → Share
moved xs ys files s = record s { took = drop (length ys) xs ++ s.took; put = drop (length xs) ys ++ s.put; files = s.files + files }

-- the same, by the value of the mutex before and after
abbrev pub moved_by : IndexValue → IndexValue → Share → Share
moved_by x y s = moved (waiting_of x) (waiting_of y) (files_of y - files_of x) s

-- what a thread may know of an item that it takes: it belongs there, has no file of an item that
-- the thread took before, and its files are below the root
pub record ItemFits (root : Path) (m : ℕ) (i : IndexItem) (s : Share) : Type 0 where
  pub kind : IsItemAt m i
  pub new : AreDistinct (paths_of root i ++ paths_taken root m s)
  pub below : All (IsBelow root) (paths_of root i)

-- the buffer of files, and that of pieces
abbrev pub files_at : BufferAt
files_at = record { mutex = record { 0 = 1 }; room = record { 0 = 1 }; more = record { 0 = 2 } }

abbrev pub pieces_at : BufferAt
pieces_at = record { mutex = record { 0 = 2 }; room = record { 0 = 3 }; more = record { 0 = 4 } }

abbrev pub IsBuffer : BufferAt → Type 0
IsBuffer at = (at ≡ files_at) ⊎ (at ≡ pieces_at)
