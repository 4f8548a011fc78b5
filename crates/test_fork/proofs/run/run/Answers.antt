use Rattle.std.proofs.Common.{[], arith, ap, sym, ◌∙◌}
use lib.ListN.{get_elem?}
use Rattle.sum_uses.proofs.Adding.{sums_begin, all_zero}
use Rattle.test_fork.proofs.Lists.{own-idle}
use Rattle.test_fork.proofs.run.run.Goals as goal

pub open_forked-requires-clause-holds : goal.open_forked-requires-clause-holds
open_forked-requires-clause-holds g c κs =
    let few = c.requires in
    let wide = c.layout_of-layout.ensures.threads in
    sums_begin c.in_ok-values.values.items c.layout_of-layout.result.threads (λ m x e. all_zero 1 m x (ap (λ l. get_elem? l m) (sym (c.in_ok-values.ensures.items_if_clones_equal (λ y e. e))) ∙ e)) (omega arith)

pub families-requires-clause-left : goal.families-requires-clause-left
families-requires-clause-left g c = λ n k at. (c.in_ok-pkg.ensures.rights n k at).left

pub families-requires-clause-idle : goal.families-requires-clause-idle
families-requires-clause-idle g c = own-idle c.in_ok-pkg.pkg _ [] c.alert_first.new.me c.alert_first.ensures
