-- A file as a tree's `read` gives it.
use Rattle.std.specs.Prelude.{ℕ, List, length, nat_lt}
use Rattle.firefly_outside.specs.declared.tree.FileBytes.{FileBytes}
use Rattle.word_index.specs.Index.{File}

abbrev pub read_file : List ℕ → FileBytes → File
read_file path file = record { path = path; bytes = file.bytes.items; long = file.long }
