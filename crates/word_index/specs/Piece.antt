-- What the fields of a piece stand for.
use Rattle.std.specs.Prelude.{◌≡◌, ℕ, ◌<◌, List, [], ◌∷◌, length, map, slice_index_or}
use Rattle.std.specs.List.{All, AllPairs}
use Rattle.word_index.specs.declared.rows.Place.{Place}
use Rattle.word_index.specs.Merged.{IsPathBelow}
use Rattle.word_index.specs.Index.{Hit, Row, Index, IsRising}

-- the file that a place names by its number
abbrev pub hit_of : List (List ℕ) → Place → Hit
hit_of paths place = record { path = slice_index_or paths place.path []; count = place.count; line = place.line }

abbrev pub row_of : List (List ℕ) → List ℕ → List Place → Row
row_of paths word places = record { word = word; hits = map (hit_of paths) places }

-- each word with its places
abbrev pub rows_of : List (List ℕ) → List (List ℕ) → List (List Place) → List Row
rows_of paths [] places = []
rows_of paths (word ∷ words) [] = []
rows_of paths (word ∷ words) (here ∷ places) = row_of paths word here ∷ rows_of paths words places

-- the places of a row are of rising paths with a number below n, and at least one
pub record IsRow (n : ℕ) (places : List Place) : Type 0 where
  pub some : 0 < length places
  pub rising : AllPairs IsPathBelow places
  pub within : All (λ x. x.path < n) places

pub record IsSound (ps skips ws : List (List ℕ)) (rows : List (List Place)) : Type 0 where
  pub paths : IsRising ps
  pub skipped : IsRising skips
  pub words : IsRising ws
  pub many : length ws ≡ length rows
  pub each : All (IsRow (length ps)) rows
