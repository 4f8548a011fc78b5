-- The index of some files.
use Rattle.std.specs.Prelude.{◌≡◌, ℕ, ◌<◌, Bool, true, false, List, [], length, map, filter, sum_by, Some, ◌↔◌, ◌⊎◌, slice_index_or}
use Rattle.std.specs.List.{Contains, AllPairs, All, flat_map}
use Rattle.std.specs.Ordering.{nat_cmp}
use Rattle.std.specs.declared.cmp.Ordering.TheVariants.{Less}
use Rattle.std.specs.Cmp.Lexicographic.{slice_cmp}
use Rattle.word_index.specs.Words.{file_words}
use Rattle.word_index.specs.Counts.{seen_in}

-- a file as it was read: its path below the root, its bytes, and whether it is too long to be indexed
pub record File : Type 0 where
  pub path : List ℕ
  pub bytes : List ℕ
  pub long : Bool

-- a word of a file: how often it is there, and on which line first
pub record Entry : Type 0 where
  pub word : List ℕ
  pub path : List ℕ
  pub count : ℕ
  pub line : ℕ

-- a file that has the word of a row
pub record Hit : Type 0 where
  pub path : List ℕ
  pub count : ℕ
  pub line : ℕ

-- a word with the files that have it
pub record Row : Type 0 where
  pub word : List ℕ
  pub hits : List Hit

-- the paths covered, those skipped among them, and the rows
pub record Index : Type 0 where
  pub paths : List (List ℕ)
  pub skipped : List (List ℕ)
  pub rows : List Row

-- the row and the hit at a place
abbrev pub row_at : Index → ℕ → Row
row_at index at = slice_index_or index.rows at (record { word = []; hits = [] })

abbrev pub hit_at : Row → ℕ → Hit
hit_at row at = slice_index_or row.hits at (record { path = []; count = 0; line = 0 })

abbrev pub entry_of : List ℕ → Hit → Entry
entry_of word hit = record { word = word; path = hit.path; count = hit.count; line = hit.line }

abbrev pub row_entries : Row → List Entry
row_entries row = map (entry_of row.word) row.hits

abbrev pub entries : Index → List Entry
entries index = flat_map row_entries index.rows

-- how many occurrences of words it counts
abbrev pub occurrences : Index → ℕ
occurrences index = sum_by (λ e. e.count) (entries index)

-- before, in the order of bytes
abbrev pub IsBelow : List ℕ → List ℕ → Type 0
IsBelow x y = slice_cmp nat_cmp x y ≡ Less

abbrev pub IsRising : List (List ℕ) → Type 0
IsRising texts = AllPairs IsBelow texts

-- paths, skipped paths, words and the files of each word rise, and no row is empty
pub record IsOrdered (index : Index) : Type 0 where
  pub paths : IsRising index.paths
  pub skipped : IsRising index.skipped
  pub words : IsRising (map (λ r. r.word) index.rows)
  pub hits : All (λ r. (0 < length r.hits) × IsRising (map (λ h. h.path) r.hits)) index.rows

-- the entry of a word of one of the files
pub record IsEntryOf (files : List File) (e : Entry) : Type 0 where
  pub file : File
  pub among : Contains files file
  pub short : file.long ≡ false
  pub path : e.path ≡ file.path
  pub counted : seen_in e.word (file_words file.bytes) ≡ Some (record { count = e.count; line = e.line })

-- the path of one of the files that are too long
pub record IsSkippedOf (files : List File) (path : List ℕ) : Type 0 where
  pub file : File
  pub among : Contains files file
  pub long : file.long ≡ true
  pub here : path ≡ file.path

-- the index of these files: it has their paths, the entries of their words and the paths of the long ones,
-- and nothing else, each in order and once
pub record IsIndexOf (files : List File) (index : Index) : Type 0 where
  pub ordered : IsOrdered index
  pub paths : (p : List ℕ) → Contains index.paths p ↔ Contains (map (λ f. f.path) files) p
  pub skipped : (p : List ℕ) → Contains index.skipped p ↔ IsSkippedOf files p
  pub entries : (e : Entry) → Contains (entries index) e ↔ IsEntryOf files e

-- some path is covered by both
abbrev pub Meet : Index → Index → Type 0
Meet a b = (p : List ℕ) × Contains a.paths p × Contains b.paths p

-- what is in both together, in order
pub record IsUnion (a b both : Index) : Type 0 where
  pub ordered : IsOrdered both
  pub paths : (p : List ℕ) → Contains both.paths p ↔ (Contains a.paths p ⊎ Contains b.paths p)
  pub skipped : (p : List ℕ) → Contains both.skipped p ↔ (Contains a.skipped p ⊎ Contains b.skipped p)
  pub entries : (e : Entry) → Contains (entries both) e ↔ (Contains (entries a) e ⊎ Contains (entries b) e)
