use Rattle.std.proofs.Common.{◌≡◌}
use Rattle.firefly_outside.specs.Seen.{tree_of}
use Rattle.test_project.proofs.copies.copy_failing_at.Given as goal

abbrev pub invariant-loop-path : goal.invariant-loop-path
invariant-loop-path l = tree_of l.copy ≡ tree_of l.fn.tree
