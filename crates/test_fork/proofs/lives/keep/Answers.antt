use Rattle.nub.specs.Forks.{IsLeft}
use Rattle.test_fork.proofs.Lists.{all-pushed}
use Rattle.test_fork.proofs.lives.keep.Goals as goal

pub returns : goal.returns
returns c = all-pushed (λ k. IsLeft c.args.pkg.now k) _ c.args.ended.now.items c.push.new.self.items c.args.one c.push.ensures.items c.requires.all c.requires.one
