-- Words with their places, over the paths that these name.
use Rattle.std.specs.Prelude.{◌≡◌, ℕ, List, length, IsPermutation}
use Rattle.std.specs.List.{All, flat_map}
use Rattle.word_index.specs.declared.rows.Place.{Place}
use Rattle.word_index.specs.Index.{Entry, IsRising, row_entries}
use Rattle.word_index.specs.Piece.{rows_of, IsRow}

-- rising words with a row each, which have these entries in some order
pub record IsTable (ps ws : List (List ℕ)) (rows : List (List Place)) (es : List Entry) : Type 0 where
  pub words : IsRising ws
  pub many : length ws ≡ length rows
  pub each : All (IsRow (length ps)) rows
  pub same : IsPermutation es (flat_map row_entries (rows_of ps ws rows))
