use Rattle.std.proofs.Common.{◌∙◌, arith, ap, refl, subst}
use Rattle.larch_actions.specs.declared.event.Layout.{Layout}
use Rattle.nub.specs.Ended.{IsDone}
use Rattle.nub.proofs.Users.{first_own}
use Rattle.barrier_once.specs.Rounds.{fresh_share}
use Rattle.command_rounds.proofs.Closing.{begins}
use Rattle.test_condition.proofs.Placing.{placed_in}
use Rattle.test_condition.proofs.once.offered_alone.Goals as goal

pub open_package-requires-clause-holds : goal.open_package-requires-clause-holds
open_package-requires-clause-holds g c κs =
    let wide = ap (λ l. l.threads) c.of-layout.ensures in
    begins _ c.in_ok-cells.cells.items c.of-layout.result.threads c.places.ensures c.in_ok-cells.ensures.items (omega arith) (omega arith) wide

pub at_once-requires-after_bounds : goal.at_once-requires-after_bounds
at_once-requires-after_bounds g c κs within = λ n t at.
    let opened = c.in_ok-p.ensures.package in
    (placed_in c.in_ok-p.p _ 1 (opened.0 ∙ c.of-layout.ensures) opened.2 c.places.ensures refl, ap (λ w. w.most) opened.2, first_own c.in_ok-p.p (λ w k. fresh_share) n t (c.in_ok-p.ensures.threads n t at))

pub close_package-requires-clause-version : goal.close_package-requires-clause-version
close_package-requires-clause-version g c κs = ap (λ (l : Layout). l.version) (c.in_ok-p.ensures.package.0 ∙ c.of-layout.ensures)

pub close_package-requires-clause-threads : goal.close_package-requires-clause-threads
close_package-requires-clause-threads g c κs = λ n t at.
    let back = c.in_ok-threads.ensures.each n t at in
    subst (λ k. IsDone c.in_ok-p.p k t) (c.in_ok-p.ensures.threads n back.was back.is_was).number back.goes
