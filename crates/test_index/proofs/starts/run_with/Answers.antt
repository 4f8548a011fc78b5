use Rattle.std.proofs.Common.{Some, length, ap, sym, subst, arith}
use Rattle.std.specs.Prelude.{All}
use Rattle.firefly_outside.specs.Seen.{tree_of}
use Rattle.test_index.specs.Copies.{HoldsTree}
use Rattle.test_index.proofs.Placed.{tree_there, tree_reported}
use Rattle.test_index.proofs.starts.run_with.Goals as goal

pub index_with-answer-requires-clause-there : goal.index_with-answer-requires-clause-there
index_with-answer-requires-clause-there g c κs within = λ k low.
    let t = tree_of c.args.tree.now in
    let same = c.as_mut_slice.ensures.value in
    let many = c.in_ok-trees.ensures.many in
    let all = subst (All (HoldsTree t)) (sym same) c.in_ok-trees.ensures.trees in
    let size = ap length same in
    tree_there t c.as_mut_slice.result.now all k (omega arith)

pub index_with-answer-requires-clause-shows : goal.index_with-answer-requires-clause-shows
index_with-answer-requires-clause-shows g c κs within =
    let t = tree_of c.args.tree.now in
    let all = subst (All (HoldsTree t)) (sym c.as_mut_slice.ensures.value) c.in_ok-trees.ensures.trees in
    (Some t, λ k s e. tree_reported t c.as_mut_slice.result.now all k s e)
