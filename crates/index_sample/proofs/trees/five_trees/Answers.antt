use Rattle.std.proofs.Common.{◌≡◌, ◌∙◌, ◌+◌, ap, subst, sym, rules, arith, length, refl}
use Rattle.std.proofs.lemmas.List.{length_push}
use Rattle.std.specs.Prelude.{All}
use Rattle.index_sample.specs.Shown.{tree_of}
use Rattle.index_sample.specs.Trees.{HoldsTree, AreSamples}
use Rattle.index_sample.proofs.Placed.{tree_more}
use Rattle.index_sample.proofs.trees.five_trees.Goals as goal

pub loop-copied-preserved : goal.loop-copied-preserved
loop-copied-preserved c = record {
  many = ap length c.in_ok-push.ensures.items ∙ length_push c.loop-copied.trees.items _ ∙ ap (λ n. n + 1) c.loop-copied.invariant.many;
  each = subst (All (HoldsTree (tree_of c.in_ok-first.first))) (sym c.in_ok-push.ensures.items)
      (tree_more (tree_of c.in_ok-first.first) c.loop-copied.trees.items c.in_ok-fork.field-0 c.loop-copied.invariant.each c.in_ok-fork.ensures.tree);
}

pub returns : goal.returns
returns c =
    let last : c.loop-copied.copied ≡ 4 = omega (arith, c.loop-copied-test.false, c.loop-copied.auto.copied-end) in record {
      tree = tree_of c.in_ok-first.first;
      is_sample = c.in_ok-first.ensures.tree;
      many = ap length c.in_ok-push-2.ensures.items ∙ length_push c.loop-copied.trees.items _ ∙ ap (λ n. n + 1) (c.loop-copied.invariant.many ∙ last);
      each = subst (All (HoldsTree (tree_of c.in_ok-first.first))) (sym c.in_ok-push-2.ensures.items)
          (tree_more (tree_of c.in_ok-first.first) c.loop-copied.trees.items c.in_ok-first.first c.loop-copied.invariant.each refl);
    }
