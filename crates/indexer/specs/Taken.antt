-- What a take returned.
use Rattle.std.specs.Prelude.{ℕ, List, [], ◌∷◌, Result, Ok, Err, Option, Some, None}
use Rattle.bounded_buffer.specs.declared.ends.TakeEnd.{TakeEnd}
use Rattle.firefly_outside.specs.Trees.{Path}
use Rattle.word_index.specs.Index.{Index}
use Rattle.index_rule.specs.declared.value.IndexItem.{IndexItem}
use Rattle.index_rule.specs.declared.value.IndexItem.TheVariants.{File, Piece}

-- the piece that was taken, if one was
abbrev pub piece_of : Result (ℕ × IndexItem) TakeEnd → List Index
piece_of (Ok (n, File path)) = []
piece_of (Ok (n, Piece piece)) = piece ∷ []
piece_of (Err e) = []

-- the same, after files and pieces were told apart
abbrev pub piece_in : Result Index TakeEnd → List Index
piece_in (Ok piece) = piece ∷ []
piece_in (Err e) = []

-- the path of the file that was taken, if one was
abbrev pub path_of : Result (ℕ × IndexItem) TakeEnd → Option Path
path_of (Ok (n, File path)) = Some path
path_of (Ok (n, Piece piece)) = None
path_of (Err e) = None
