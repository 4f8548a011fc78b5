use Rattle.std.proofs.Common.{[]}
use Rattle.nub.specs.Forks.{IsLeft}
use Rattle.nub.specs.Idle.{IsIdle}
use Rattle.test_fork.proofs.Lists.{all-push, next-is, own-idle, turned}
use Rattle.test_fork.proofs.chain.links.Goals as goal

pub forked-next-requires-clause-left : goal.forked-next-requires-clause-left
forked-next-requires-clause-left g c =
    next-is (λ k. IsLeft c.args.pkg.now k) c.args.rights.items c.loop-right.yielded c.loop-right.right-iterator.rest.items c.next.new.self.rest.items c.in-Some.right c.loop-right.invariant.whole c.in-Some.ensures.steps.0 c.requires.left

pub loop-right-preserved : goal.loop-right-preserved
loop-right-preserved g c = let i = c.loop-right.invariant in record {
  whole = turned c.args.rights.items c.loop-right.yielded c.loop-right.right-iterator.rest.items c.next.new.self.rest.items c.in-Some.right i.whole c.in-Some.ensures.steps.0;
  idle = own-idle c.args.pkg.now c.in-Some.right.number [] c.forked-next.result c.forked-next.ensures.child;
  links = all-push (λ t. IsIdle c.args.pkg.now t.number [] t) c.loop-right.links.items c.push.new.self.items c.forked-next.new.me c.in_ok-push.ensures.items i.links
      (own-idle c.args.pkg.now c.loop-right.last.number [] c.forked-next.new.me c.forked-next.ensures.idle);
}

pub returns : goal.returns
returns g c = all-push (λ t. IsIdle c.args.pkg.now t.number [] t) c.loop-right.links.items c.push-2.new.self.items c.loop-right.last c.in_ok-push-2.ensures.items c.loop-right.invariant.links c.loop-right.invariant.idle
