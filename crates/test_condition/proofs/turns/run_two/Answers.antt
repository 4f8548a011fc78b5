use Rattle.std.proofs.Common.{ap}
use Rattle.nub.specs.Ended.{IsDone}
use Rattle.test_condition.proofs.Playing.{each_of_two}
use Rattle.test_condition.proofs.turns.run_two.Goals as goal

pub close_package-requires-clause-version : goal.close_package-requires-clause-version
close_package-requires-clause-version g c κs = c.in_ok-pkg.ensures.version

pub close_package-requires-clause-threads : goal.close_package-requires-clause-threads
close_package-requires-clause-threads g c κs =
    let done = c.read_both-first.ensures in
    each_of_two (λ n t. IsDone c.in_ok-pkg.pkg n t) c.in-Ok.threads.items c.read_both-first.result.0 c.read_both-first.result.1 c.in-Ok.ensures done.0 done.1
