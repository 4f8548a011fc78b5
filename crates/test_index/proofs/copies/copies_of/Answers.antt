use Rattle.std.proofs.Common.{rules, subst, sym}
use Rattle.std.specs.Prelude.{All}
use Rattle.firefly_outside.specs.Seen.{tree_of}
use Rattle.test_index.specs.Copies.{HoldsTree}
use Rattle.test_index.proofs.Placed.{tree_more}
use Rattle.test_index.proofs.copies.copies_of.Goals as goal

pub loop-made-preserved : goal.loop-made-preserved
loop-made-preserved c = record {
  many = search rules;
  trees = subst (All (HoldsTree (tree_of c.args.tree.now))) (sym c.in_ok-push.ensures.items)
      (tree_more (tree_of c.args.tree.now) c.loop-made.trees.items c.in_ok-copy_failing_at.field-0 c.loop-made.invariant.trees c.in_ok-copy_failing_at.ensures);
}

pub returns-clause-trees : goal.returns-clause-trees
returns-clause-trees c = subst (All (HoldsTree (tree_of c.args.tree.now))) (sym c.in_ok-push-2.ensures.items)
    (tree_more (tree_of c.args.tree.now) c.loop-made.trees.items c.in_ok-copy_failing_at-2.field-0 c.loop-made.invariant.trees c.in_ok-copy_failing_at-2.ensures)
