-- Values, each on a line after its place.
use Rattle.std.specs.Prelude.{ℕ, List, ◌++◌, codes, decimal}
use Rattle.std.specs.List.{enumerate_from, flat_map}
use Rattle.text_output.specs.Paths.{newline}

-- a place and a value
abbrev pub value_line : ℕ × ℕ → List ℕ
value_line x = decimal x.0 ++ (codes " " ++ decimal x.1) ++ newline

abbrev pub lines_of : List ℕ → List ℕ
lines_of values = flat_map value_line (enumerate_from 0 values)
