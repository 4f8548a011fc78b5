use Rattle.std.proofs.Common.{◌≡◌, ◌≤◌, ◌+◌, ◌++◌, length, vec_len, vec_capacity}
use Rattle.std.specs.Vec.Iter.{into_iter_items}
use Rattle.walker.proofs.found.add_files.Given as goal

abbrev pub invariant-loop-file : goal.invariant-loop-file
invariant-loop-file l = record {
  order : l.yielded ++ into_iter_items l.file-iterator ≡ l.fn.more.items;
  items : l.files.items ≡ l.initial.files.items ++ l.yielded;
  room : vec_len l.files + length (into_iter_items l.file-iterator) ≤ vec_capacity l.files;
}
