use Rattle.std.proofs.Common.{◌≡◌, length}
use Rattle.std.specs.Prelude.{All}
use Rattle.firefly_outside.specs.Seen.{tree_of}
use Rattle.test_index.specs.Copies.{HoldsTree}
use Rattle.test_index.proofs.copies.copies_of.Given as goal

abbrev pub invariant-loop-made : goal.invariant-loop-made
invariant-loop-made l = record {
  many : length l.trees.items ≡ l.made;
  trees : All (HoldsTree (tree_of l.tree)) l.trees.items;
}
