-- Rows of words with their files, in columns and as an index.
use Rattle.std.specs.Prelude.{◌≡◌, ◌↔◌, ◌⊎◌, ℕ, ◌<◌, ◌≤◌, List, [], ◌∷◌, length, map, take, slice_index_or}
use Rattle.std.specs.List.{All, AllPairs, Contains}
use Rattle.word_index.specs.Blocks.{parts, AreEnds}
use Rattle.word_index.specs.Index.{Hit, Row, IsRising}
use Rattle.index_table.specs.declared.draft.Figures.{Figures}

-- what a draft was given: whole rows, the hits of the row under way, and skipped paths
pub record Drafted : Type 0 where
  pub rows : List Row
  pub hits : List Hit
  pub skipped : List (List ℕ)

-- an index, and the paths of its rows
pub record Contents : Type 0 where
  pub rows : List Row
  pub skipped : List (List ℕ)
  pub paths : List (List ℕ)

abbrev pub words_of : List Row → List (List ℕ)
words_of rows = map (λ r. r.word) rows

abbrev pub paths_of : List Hit → List (List ℕ)
paths_of hits = map (λ h. h.path) hits

-- some row has the word, and in it a file of this path
abbrev pub HasFile : List Row → List ℕ → List ℕ → Type 0
HasFile rows word path = (row : Row) × Contains rows row × (row.word ≡ word) × Contains (paths_of row.hits) path

-- some row has a file of this path
abbrev pub HasPath : List Row → List ℕ → Type 0
HasPath rows path = (row : Row) × Contains rows row × Contains (paths_of row.hits) path

-- a row, or the row under way, has a file of this path
abbrev pub IsAmong : Drafted → List ℕ → Type 0
IsAmong d path = HasPath d.rows path ⊎ Contains (paths_of d.hits) path

-- words rise, and in each row the paths
pub record AreOrdered (rows : List Row) : Type 0 where
  pub words : IsRising (words_of rows)
  pub hits : All (λ r. IsRising (paths_of r.hits)) rows

-- the paths are those of the rows, rising
pub record ArePathsOf (rows : List Row) (paths : List (List ℕ)) : Type 0 where
  pub rising : IsRising paths
  pub members : (p : List ℕ) → Contains paths p ↔ HasPath rows p

-- the places of the files that have the word, among the paths
pub record AreFilesWith (c : Contents) (word : List ℕ) (places : List ℕ) : Type 0 where
  pub rising : AllPairs (λ a b. a < b) places
  pub within : All (λ k. k < length c.paths) places
  pub files : (k : ℕ) → k < length c.paths → Contains places k ↔ HasFile c.rows word (slice_index_or c.paths k [])

-- the hits in columns: the numbers of their paths, and their counts and lines
abbrev pub hits_of : List (List ℕ) → List ℕ → List Figures → List Hit
hits_of paths [] fs = []
hits_of paths (n ∷ ns) [] = []
hits_of paths (n ∷ ns) (f ∷ fs) = record { path = slice_index_or paths n []; count = f.count; line = f.line } ∷ hits_of paths ns fs

-- each word with its hits
abbrev pub rows_with : List (List ℕ) → List (List Hit) → List Row
rows_with [] hits = []
rows_with (w ∷ ws) [] = []
rows_with (w ∷ ws) (h ∷ hs) = record { word = w; hits = h } ∷ rows_with ws hs

-- the rows that have ended, of columns in which so many hits are of such rows
abbrev pub rows_of : List (List ℕ) → List (List ℕ) → List ℕ → List Figures → List ℕ → ℕ → List Row
rows_of paths words ns fs ends closed = rows_with words (parts (take closed (hits_of paths ns fs)) 0 ends)

-- columns that fit: the figures are of the hits, the numbers name paths, each word has an end, and the ends are those of the rows that have ended
pub record AreColumns (many : ℕ) (words : List (List ℕ)) (ns : List ℕ) (fs : List Figures) (ends : List ℕ) (closed : ℕ) : Type 0 where
  pub same : length fs ≡ length ns
  pub within : All (λ n. n < many) ns
  pub each : length words ≡ length ends
  pub inside : closed ≤ length ns
  pub fit : AreEnds (take closed ns) 0 ends

-- each number names a path
abbrev pub AreUsed : ℕ → List ℕ → Type 0
AreUsed many ns = (k : ℕ) → k < many → Contains ns k
