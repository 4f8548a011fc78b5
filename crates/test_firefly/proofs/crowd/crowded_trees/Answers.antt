use Rattle.std.proofs.Common.{rules, refl, None}
use Rattle.firefly.specs.Looks.{unseen}
use Rattle.firefly.proofs.TreeLooks.{shows-more}
use Rattle.test_firefly.proofs.crowd.crowded_trees.Goals as goal

pub loop-made-preserved : goal.loop-made-preserved
loop-made-preserved c = record {
  many = search rules;
  reported = rw c.in_ok-push.ensures.items (shows-more (λ t. unseen t.faults) None _ refl c.loop-made.trees.items c.loop-made.invariant.reported);
}

pub returns-clause-agree : goal.returns-clause-agree
returns-clause-agree c = (None, c.loop-made.invariant.reported)
