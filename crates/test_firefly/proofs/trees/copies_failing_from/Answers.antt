use Rattle.std.proofs.Common.{rules, Some, ap}
use Rattle.firefly_outside.specs.Seen.{tree_of, weak_of, calls_of, faults_of}
use Rattle.firefly.proofs.TreeLooks.{shows-more}
use Rattle.test_firefly.proofs.trees.copies_failing_from.Goals as goal

pub loop-made-preserved : goal.loop-made-preserved
loop-made-preserved c = record {
  many = search rules;
  reported = rw c.in_ok-push.ensures.items (shows-more (λ m. record { reported = Some (tree_of m); weak = weak_of m; calls = calls_of m; faults = faults_of m }) (Some (tree_of c.args.tree.now)) c.in_ok-copy.copy (ap Some c.in_ok-copy.ensures) c.loop-made.trees.items c.loop-made.invariant.reported);
}

pub returns-clause-agree : goal.returns-clause-agree
returns-clause-agree c = (Some (tree_of c.args.tree.now), c.loop-made.invariant.reported)
