use Rattle.std.proofs.Common.{◌≡◌, length, None}
use Rattle.firefly.specs.Looks.{AllShow, looks_of, unseen}
use Rattle.test_firefly.proofs.crowd.crowded_trees.Given as goal

abbrev pub invariant-loop-made : goal.invariant-loop-made
invariant-loop-made l = record {
  many : length l.trees.items ≡ l.made;
  reported : AllShow None (looks_of (λ t. unseen t.faults) l.trees.items);
}
