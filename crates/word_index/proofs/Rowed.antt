-- A row of a piece, and a file of it, by their places.
use Rattle.std.proofs.Common.{◌≡◌, ℕ, ◌<◌, List, [], length, get_or, map, arith, sym, ap, ◌∙◌, All}
use Rattle.std.proofs.lemmas.List.{length-map, get_or-map}
use Rattle.std.proofs.lemmas.List.Elements.{All-get_or}
use Rattle.word_index.specs.declared.rows.Place.{Place}
use Rattle.word_index.specs.Index.{Row, Index, hit_at, row_at}
use Rattle.word_index.specs.Piece.{hit_of, row_of, rows_of, IsRow, IsSound}
use Rattle.word_index.specs.Merged.{nowhere}
use Rattle.word_index.proofs.Sides.{length_rows, row_is}

abbrev view : List (List ℕ) → List (List ℕ) → List (List ℕ) → List (List Place) → Index
view ps skips ws rows = record { paths = ps; skipped = skips; rows = rows_of ps ws rows }

module _ (ps skips ws : List (List ℕ)) (rows : List (List Place)) (sound : IsSound ps skips ws rows) (at : ℕ) (here : at < length (rows_of ps ws rows)) where
  pub word_inside : at < length ws
  word_inside = omega (arith, here, length_rows ps ws rows sound.many)

  pub row_inside : at < length rows
  row_inside = omega (arith, word_inside, sound.many)

  pub row_view : row_at (view ps skips ws rows) at ≡ row_of ps (get_or ws at []) (get_or rows at [])
  row_view = row_is ps ws rows at (record { word = []; hits = [] }) sound.many word_inside

  pub hits_view : length (row_at (view ps skips ws rows) at).hits ≡ length (get_or rows at [])
  hits_view = ap (λ (r : Row). length r.hits) row_view ∙ length-map (get_or rows at []) (hit_of ps)

  module _ (number : ℕ) (below : number < length (row_at (view ps skips ws rows) at).hits) where
    pub place_inside : number < length (get_or rows at [])
    place_inside = omega (arith, below, hits_view)

    pub path_inside : (get_or (get_or rows at []) number nowhere).path < length ps
    path_inside = All-get_or (λ p. p.path < length ps) (get_or rows at []) number nowhere place_inside (All-get_or (IsRow (length ps)) rows at [] row_inside sound.each).within

    pub hit_view : hit_at (row_at (view ps skips ws rows) at) number ≡ hit_of ps (get_or (get_or rows at []) number nowhere)
    hit_view = ap (λ (r : Row). hit_at r number) row_view ∙ get_or-map (hit_of ps) (get_or rows at []) number nowhere (record { path = []; count = 0; line = 0 }) place_inside
