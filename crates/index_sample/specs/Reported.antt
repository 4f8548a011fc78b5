-- The sample tree, by what is at each path.
use Rattle.std.specs.Prelude.{ℕ, zero, suc, map, Option, Some, None, if◌then◌else◌}
use Rattle.std.specs.Bool.{nat_eq}
use Rattle.std.specs.List.{range_with_len}
use Rattle.std.specs.Cmp.Lexicographic.{pointwise}
use Rattle.firefly_outside.specs.Trees.{Path, Node, Directory, Bytes, Contents}
use Rattle.firefly_outside.specs.Samples.{sample_root, dir_entry, file_entry, dir_path, file_path, dir_count, files_in, sample_bytes}

-- the number below n whose path this is
unfoldable pub number_at : (ℕ → Path) → ℕ → Path → Option ℕ
number_at f zero q = None
number_at f (suc n) q = if pointwise nat_eq (f n) q then Some n else number_at f n q

-- what is at the path of a directory or of a file
abbrev pub node_below : ℕ → ℕ → Option ℕ → Option ℕ → Option Node
node_below seed files (Some k) file = Some (Directory (map file_entry (files_in files k)))
node_below seed files None (Some i) = Some (Bytes (sample_bytes seed i))
node_below seed files None None = None

abbrev pub sample_reported : ℕ → ℕ → Contents
sample_reported seed files q =
    if pointwise nat_eq sample_root q
    then Some (Directory (map dir_entry (range_with_len 0 (dir_count files))))
    else node_below seed files (number_at dir_path (dir_count files) q) (number_at file_path files q)
