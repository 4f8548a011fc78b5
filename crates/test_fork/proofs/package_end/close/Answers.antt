use Rattle.nub.specs.Forks.{IsLeft}
use Rattle.test_fork.proofs.Lists.{all-append}
use Rattle.test_fork.proofs.package_end.close.Goals as goal

pub close_forked-requires-clause-left : goal.close_forked-requires-clause-left
close_forked-requires-clause-left c κs = all-append (λ k. IsLeft c.args.pkg k) c.args.ended.items c.args.unborn.items c.requires.ended c.requires.unborn
