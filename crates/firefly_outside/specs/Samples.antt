-- The sample tree: what a seed and a number of files give.
use Rattle.std.specs.Prelude.{◌≡◌, ◌≢◌, ℕ, ◌+◌, ◌-◌, ◌*◌, ◌/◌, ◌%◌, ◌<◌, List, [], ◌∷◌, ◌++◌, map, min, Some, None, codes, decimal}
use Rattle.std.specs.List.{flat_map, range_with_len, join_with_byte}
use Rattle.firefly_outside.specs.Trees.{Path, Contents, Directory, Bytes, child}
use Rattle.firefly_outside.specs.declared.tree.Entry.{Entry}
use Rattle.firefly_outside.specs.declared.tree.Kind.TheVariants.{File, Dir}

-- the number of word q on line l of file i, each counted from 0
abbrev pub word_number : ℕ → ℕ → ℕ → ℕ → ℕ
word_number seed i l q = (seed % 1000 + 31 * i + 17 * l + q * q) % 499

-- the word of a number
abbrev pub sample_word : ℕ → List ℕ
sample_word n = codes "w" ++ decimal n

-- eight words, a space between any two, and a newline
abbrev pub sample_line : ℕ → ℕ → ℕ → List ℕ
sample_line seed i l = join_with_byte 32 (map (λ q. sample_word (word_number seed i l q)) (range_with_len 0 8)) ++ 10 ∷ []

-- how many lines file i has
abbrev pub line_count : ℕ → ℕ → ℕ
line_count seed i = 1 + (seed % 1000 + i) % 7

-- the bytes of file i
abbrev pub sample_bytes : ℕ → ℕ → List ℕ
sample_bytes seed i = flat_map (sample_line seed i) (range_with_len 0 (line_count seed i))

-- the paths of the root, of directory k and of file i, of which a hundred are in a directory
abbrev pub sample_root : Path
sample_root = codes "sample"

abbrev pub dir_entry : ℕ → Entry
dir_entry k = record { name = codes "d" ++ decimal k; kind = Dir }

abbrev pub file_entry : ℕ → Entry
file_entry i = record { name = codes "f" ++ decimal i; kind = File }

abbrev pub dir_path : ℕ → Path
dir_path k = child sample_root (dir_entry k).name

abbrev pub file_path : ℕ → Path
file_path i = child (dir_path (i / 100)) (file_entry i).name

-- how many directories below the root so many files need
abbrev pub dir_count : ℕ → ℕ
dir_count files = (files + 99) / 100

-- those of the first so many files that are in directory k
abbrev pub files_in : ℕ → ℕ → List ℕ
files_in files k = range_with_len (100 * k) (min 100 (files - 100 * k))

-- the tree has the root, so many directories and so many files, all in the order of their numbers, and nothing else
pub record HasSamples (seed dirs files : ℕ) (t : Contents) : Type 0 where
  pub at_root : t sample_root ≡ Some (Directory (map dir_entry (range_with_len 0 dirs)))
  pub at_dirs : (k : ℕ) → k < dirs → t (dir_path k) ≡ Some (Directory (map file_entry (files_in files k)))
  pub at_files : (i : ℕ) → i < files → t (file_path i) ≡ Some (Bytes (sample_bytes seed i))
  pub elsewhere : (q : Path) → q ≢ sample_root → ((k : ℕ) → k < dirs → q ≢ dir_path k) → ((i : ℕ) → i < files → q ≢ file_path i)
      → t q ≡ None

-- the sample tree of so many files
abbrev pub IsSampleTree : ℕ → ℕ → Contents → Type 0
IsSampleTree seed files t = HasSamples seed (dir_count files) files t
