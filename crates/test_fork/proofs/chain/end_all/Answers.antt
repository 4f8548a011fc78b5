use Rattle.std.proofs.Common.{rules}
use Rattle.nub.specs.Forks.{IsLeft}
use Rattle.test_fork.proofs.Lists.{all-by-recursion, all-given}
use Rattle.test_fork.proofs.chain.end_all.Goals as goal

pub run_crew-requires-clause-jobs : goal.run_crew-requires-clause-jobs
run_crew-requires-clause-jobs g c κs within =
    all-by-recursion _ c.args.links.items (λ n t at. (c.requires.version, c.requires.idle n t at))

pub returns : goal.returns
returns g c =
    all-given _ (λ k. IsLeft c.args.pkg.now k) c.args.links.items c.in-Ok.done.results.items (λ t x given. (let goes = given in search rules)) c.in-Ok.ensures.done
