use Rattle.std.proofs.Common.{rules}
use Rattle.nub.specs.Forks.{IsLeft}
use Rattle.test_fork.specs.Families.{AllAre}
use Rattle.test_fork.proofs.Lists.{all-by-recursion, all-given, ok-turn}
use Rattle.test_fork.proofs.run.let_live.Goals as goal

pub run_crew-answer-requires-clause-jobs : goal.run_crew-answer-requires-clause-jobs
run_crew-answer-requires-clause-jobs g c κs within =
    all-by-recursion _ c.args.families.items (λ n f at. ((c.requires.named, c.requires.version), c.requires.heads n f at, c.requires.rights n f at))

pub joined-requires-clause-ended : goal.joined-requires-clause-ended
joined-requires-clause-ended g c =
    ok-turn _ _ c.run_crew-answer.result
    (λ r zip. all-given _ (λ v. AllAre (λ k. IsLeft c.args.pkg.now k) v.items) c.args.families.items r.results.items (λ t x given. (let goes = given in search rules)) zip)
    c.run_crew-answer.ensures.done
