use Rattle.std.proofs.Common.{◌≡◌, ◌≤◌, ◌++◌, map, length, false}
use Rattle.std.specs.Vec.Iter.{into_iter_items}
use Rattle.indexmap.specs.IndexMap.{spare}
use Rattle.walker.specs.Walk.{pairs_of}
use Rattle.walker.proofs.found.add_dirs.Given as goal

abbrev pub invariant-loop-dir : goal.invariant-loop-dir
invariant-loop-dir l = record {
  order : l.yielded ++ into_iter_items l.dir-iterator ≡ l.fn.more.items;
  pairs : pairs_of l.dirs.entries ≡ pairs_of l.initial.dirs.entries ++ map (λ p. (p, false)) l.yielded;
  room : length (into_iter_items l.dir-iterator) ≤ spare l.dirs;
}
