-- The lines of which the files of sample trees are made.
use Rattle.std.specs.Prelude.{List, ℕ, map}
use Rattle.std.specs.List.{range_with_len}
use Rattle.firefly_outside.specs.Samples.{sample_line}

-- the lines that begin with word 0, word 1 and so on: those that the first file begins with at each
-- seed below 499
abbrev pub all_lines : List (List ℕ)
all_lines = map (λ n. sample_line n 0 0) (range_with_len 0 499)
