use Rattle.std.proofs.Common.{[], ◌<◌, ◌∙◌, arith, ap, rules, sym, subst, lit≤}
use Rattle.larch_actions.specs.declared.event.Layout.{Layout}
use Rattle.nub.specs.Ended.{IsDone}
use Rattle.nub.proofs.Users.{from_at, idle_own}
use Rattle.bounded_buffer.specs.Rings.{fresh}
use Rattle.bounded_buffer.proofs.Opening.{rings_begin}
use Rattle.test_condition.specs.Free.{HasBuffer}
use Rattle.test_condition.proofs.Freeing.{only_value}
use Rattle.test_condition.proofs.ring_run.run.Goals as goal

pub open_package-requires-clause-holds : goal.open_package-requires-clause-holds
open_package-requires-clause-holds g c κs =
    let capacity = c.args.capacity in
    rings_begin c.in_ok-values.values.items c.of-layout.result.threads (λ m q at. (capacity, only_value c.in_ok-values.values.items (fresh capacity) c.in_ok-values.ensures m q at))

pub at_once-requires-after_bounds : goal.at_once-requires-after_bounds
at_once-requires-after_bounds g c κs within = λ n t at.
    let few = c.requires.threads in
    let layout = c.in_ok-pkg.ensures.package.0 ∙ c.of-layout.ensures in
    let low = (from_at c.in_ok-pkg.threads.items n t at).0 in
    let number = (c.in_ok-pkg.ensures.threads n t at).number in
    let count = c.in_ok-pkg.ensures.count ∙ ap (λ l. l.threads) c.of-layout.ensures in
    let wide = ap (λ l. l.threads) layout in (
      subst (λ l. HasBuffer l) (sym layout) (record { threads = few.0; mutexes = lit≤ tt; conditions = lit≤ tt }),
      record { share = []; idle = idle_own c.in_ok-pkg.pkg (λ w t. []) n t (c.in_ok-pkg.ensures.threads n t at) },
      omega arith,
    )

pub close_package-requires-clause-version : goal.close_package-requires-clause-version
close_package-requires-clause-version g c κs = ap (λ (l : Layout). l.version) (c.in_ok-pkg.ensures.package.0 ∙ c.of-layout.ensures)

pub close_package-requires-clause-threads : goal.close_package-requires-clause-threads
close_package-requires-clause-threads g c κs = λ n t at.
    let back = c.in-Ok.ensures.each n t at in
    let own : IsDone c.in_ok-pkg.pkg back.was.number t = (let goes = back.goes in search rules) in
    subst (λ k. IsDone c.in_ok-pkg.pkg k t) (c.in_ok-pkg.ensures.threads n back.was back.is_was).number own
