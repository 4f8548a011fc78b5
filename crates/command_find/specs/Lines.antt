-- Paths, each on a line.
use Rattle.std.specs.Prelude.{ℕ, List, ◌++◌}
use Rattle.std.specs.List.{flat_map}
use Rattle.text_output.specs.Paths.{newline, escaped}

-- a path, spelt as in an index text
abbrev pub path_line : List ℕ → List ℕ
path_line path = escaped path ++ newline

abbrev pub lines_of : List (List ℕ) → List ℕ
lines_of paths = flat_map path_line paths
