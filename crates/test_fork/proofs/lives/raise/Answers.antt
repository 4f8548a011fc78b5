use Rattle.nub.specs.Forks.{IsLeft}
use Rattle.test_fork.proofs.Lists.{next-is}
use Rattle.test_fork.proofs.lives.raise.Goals as goal

pub forked-child-requires-clause-left : goal.forked-child-requires-clause-left
forked-child-requires-clause-left g c =
    next-is (λ k. IsLeft c.args.pkg.now k) c.args.rights.items c.loop-right.yielded c.loop-right.right-iterator.rest.items c.next.new.self.rest.items c.in-Some.right c.loop-right.invariant.whole c.in-Some.ensures.steps.0 c.requires.left
