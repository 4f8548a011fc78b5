use Rattle.std.proofs.Common.{◌≡◌, length}
use Rattle.std.specs.Prelude.{All}
use Rattle.index_sample.specs.Shown.{tree_of}
use Rattle.index_sample.specs.Trees.{HoldsTree}
use Rattle.index_sample.proofs.trees.five_trees.Given as goal

abbrev pub invariant-loop-copied : goal.invariant-loop-copied
invariant-loop-copied l = record {
  many : length l.trees.items ≡ l.copied;
  each : All (HoldsTree (tree_of l.first)) l.trees.items;
}
