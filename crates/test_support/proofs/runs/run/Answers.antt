use Rattle.std.proofs.Common.{[], arith, rules, ap, sym, subst, ◌∙◌}
use Rattle.larch_actions.specs.declared.event.Layout.{Layout}
use lib.ListN.{get_elem?}
use Rattle.larch_actions.specs.Layout.{IsLawful}
use Rattle.larch_actions.proofs.Names.{few_in_one}
use Rattle.nub.specs.Ended.{IsDone}
use Rattle.nub.proofs.Users.{idle_own}
use Rattle.test_support.specs.Layouts.{HasFew}
use Rattle.sum_uses.proofs.Adding.{sums_begin, all_zero}
use Rattle.test_support.proofs.runs.run.Goals as goal

pub open_package-requires-clause-holds : goal.open_package-requires-clause-holds
open_package-requires-clause-holds g c κs =
    let few = few_in_one c.args.layout c.requires.lawful c.requires.version in
    sums_begin c.in_ok-values.values.items c.args.layout.threads (λ m x e. all_zero c.args.layout.mutexes m x (ap (λ l. get_elem? l m) (sym c.in_ok-values.ensures) ∙ e)) (omega arith)

pub at_once-requires-after_bounds : goal.at_once-requires-after_bounds
at_once-requires-after_bounds g c κs within = λ n t at.
    let layout = sym c.in_ok-pkg.ensures.package.0 in
    (subst (λ l. IsLawful l) layout c.requires.lawful, subst (λ l. HasFew l) layout c.requires.few, idle_own c.in_ok-pkg.pkg (λ w t. []) n t (c.in_ok-pkg.ensures.threads n t at))

pub close_package-requires-clause-version : goal.close_package-requires-clause-version
close_package-requires-clause-version g c κs = ap (λ (l : Layout). l.version) c.in_ok-pkg.ensures.package.0 ∙ c.requires.version

pub close_package-requires-clause-threads : goal.close_package-requires-clause-threads
close_package-requires-clause-threads g c κs = λ n t at.
    let back = c.in-Ok.ensures.each n t at in
    let own : IsDone c.in_ok-pkg.pkg back.was.number t = (let goes = back.goes in search rules) in
    subst (λ k. IsDone c.in_ok-pkg.pkg k t) (c.in_ok-pkg.ensures.threads n back.was back.is_was).number own
