use Rattle.std.proofs.Common.{arith, ap, sym, ◌∙◌}
use lib.ListN.{get_elem?}
use Rattle.sum_uses.proofs.Adding.{sums_begin, all_zero}
use Rattle.test_fork.proofs.chain.run_chain.Goals as goal

pub open_forked-requires-clause-holds : goal.open_forked-requires-clause-holds
open_forked-requires-clause-holds g c κs =
    let few = c.requires in
    let wide = c.layout_of-layout.ensures.threads in
    sums_begin c.in_ok-values.values.items c.layout_of-layout.result.threads (λ m x e. all_zero 1 m x (ap (λ l. get_elem? l m) (sym (c.in_ok-values.ensures.items_if_clones_equal (λ y e. e))) ∙ e)) (omega arith)

pub links-requires-clause-left : goal.links-requires-clause-left
links-requires-clause-left g c = λ n k at. (c.in_ok-pkg.ensures.rights n k at).left
