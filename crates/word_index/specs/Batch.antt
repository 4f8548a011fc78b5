-- Files that were read, as a batch holds them.
use Rattle.std.specs.Prelude.{◌≡◌, ℕ, ◌+◌, ◌<◌, ◌^◌, List, [], length, map, filter, if◌then◌else◌}
use Rattle.std.specs.List.{Contains, All}
use Rattle.word_index.specs.Words.{lower}
use Rattle.word_index.specs.Index.{File, IsBelow, IsRising}
use Rattle.word_index.specs.Links.{places_from}
use Rattle.word_index.specs.declared.rows.Place.{Place}

-- the bytes of a file as they are looked through: in lower case, and none of a file that is too long
abbrev pub low_of : File → List ℕ
low_of f = if f.long then [] else map lower f.bytes

-- the paths, the paths of the long files among them, and the bytes of each in lower case
pub record Held : Type 0 where
  pub paths : List (List ℕ)
  pub skipped : List (List ℕ)
  pub lows : List (List ℕ)

-- these files, in this order
pub record HoldsFiles (fs : List File) (b : Held) : Type 0 where
  pub paths : b.paths ≡ map (λ f. f.path) fs
  pub skipped : b.skipped ≡ map (λ f. f.path) (filter (λ f. f.long) fs)
  pub lows : b.lows ≡ map low_of fs

abbrev pub IsShort : List ℕ → Type 0
IsShort low = length low + 1 < 2 ^ 32

-- what every batch keeps: rising paths, those skipped among them, and for each the bytes of a file
pub record IsBatch (paths skipped lows : List (List ℕ)) : Type 0 where
  pub rising : IsRising paths
  pub skips : IsRising skipped
  pub among : (p : List ℕ) → Contains skipped p → Contains paths p
  pub many : length lows ≡ length paths
  pub short : All IsShort lows

-- the path comes after all of these
abbrev pub IsAboveAll : List ℕ → List (List ℕ) → Type 0
IsAboveAll path paths = (p : List ℕ) → Contains paths p → IsBelow p path

-- the words of these bytes, each with its places
pub record IsTableOf (lows : List (List ℕ)) (ws : List (List ℕ)) (rows : List (List Place)) : Type 0 where
  pub rising : IsRising ws
  pub each : rows ≡ map (λ w. places_from w 0 lows) ws
  pub all : (w : List ℕ) → 0 < length (places_from w 0 lows) → Contains ws w
  pub some : (w : List ℕ) → Contains ws w → 0 < length (places_from w 0 lows)
