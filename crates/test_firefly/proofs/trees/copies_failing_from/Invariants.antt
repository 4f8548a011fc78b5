use Rattle.std.proofs.Common.{◌≡◌, length, Some}
use Rattle.firefly_outside.specs.Seen.{tree_of, weak_of, calls_of, faults_of}
use Rattle.firefly.specs.Looks.{AllShow, looks_of}
use Rattle.test_firefly.proofs.trees.copies_failing_from.Given as goal

abbrev pub invariant-loop-made : goal.invariant-loop-made
invariant-loop-made l = record {
  many : length l.trees.items ≡ l.made;
  reported : AllShow (Some (tree_of l.fn.tree)) (looks_of (λ m. record { reported = Some (tree_of m); weak = weak_of m; calls = calls_of m; faults = faults_of m }) l.trees.items);
}
