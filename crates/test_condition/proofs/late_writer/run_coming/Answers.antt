use Rattle.std.proofs.Common.{rules, subst, ap}
use Rattle.nub.specs.Ended.{IsDone}
use Rattle.readers_writers.specs.declared.role.Role.TheVariants.{Idle}
use Rattle.test_condition.proofs.Playing.{acting_own}
use Rattle.test_condition.proofs.late_writer.run_coming.Goals as goal

pub at_once-requires-after_bounds : goal.at_once-requires-after_bounds
at_once-requires-after_bounds g c κs within = λ n t at. (c.in_ok-pkg.ensures.named, acting_own c.in_ok-pkg.pkg n Idle t (c.in_ok-pkg.ensures.threads n t at))

pub close_package-requires-clause-version : goal.close_package-requires-clause-version
close_package-requires-clause-version g c κs = c.in_ok-pkg.ensures.version

pub close_package-requires-clause-threads : goal.close_package-requires-clause-threads
close_package-requires-clause-threads g c κs = λ n t at.
    let back = c.in-Ok.ensures.each n t at in
    let own : IsDone c.in_ok-pkg.pkg back.was.number t = (let goes = back.goes in search rules) in
    subst (λ k. IsDone c.in_ok-pkg.pkg k t) (c.in_ok-pkg.ensures.threads n back.was back.is_was).idle.number own
