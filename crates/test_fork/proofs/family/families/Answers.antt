use Rattle.std.proofs.Common.{[], subst}
use Rattle.nub.specs.Forks.{IsLeft}
use Rattle.nub.specs.Idle.{IsIdle}
use Rattle.test_fork.specs.Families.{AllAre}
use Rattle.test_fork.proofs.Lists.{all-none, all-push, next-is, own-idle, turned}
use Rattle.test_fork.proofs.family.families.Goals as goal

pub forked-head-requires-clause-left : goal.forked-head-requires-clause-left
forked-head-requires-clause-left g c =
    next-is (λ k. IsLeft c.args.pkg.now k) c.args.rights.items c.loop-right.yielded c.loop-right.right-iterator.rest.items c.next.new.self.rest.items c.in-Some.right c.loop-right.invariant.whole c.in-Some.ensures.steps.0 c.requires.left

pub loop-right-preserved-in-Continue-1 : goal.loop-right-preserved-in-Continue-1
loop-right-preserved-in-Continue-1 g c = let i = c.loop-right.invariant in record {
  whole = turned c.args.rights.items c.loop-right.yielded c.loop-right.right-iterator.rest.items c.next.new.self.rest.items c.in-Some.right i.whole c.in-Some.ensures.steps.0;
  idle = i.idle;
  own = all-push (λ k. IsLeft c.args.pkg.now k) c.loop-right.own.items c.push.new.self.items c.in-Some.right c.in_ok-push.ensures.items i.own
      (next-is (λ k. IsLeft c.args.pkg.now k) c.args.rights.items c.loop-right.yielded c.loop-right.right-iterator.rest.items c.next.new.self.rest.items c.in-Some.right i.whole c.in-Some.ensures.steps.0 c.requires.left);
  heads = i.heads;
  rights = i.rights;
}

pub loop-right-preserved : goal.loop-right-preserved
loop-right-preserved g c = let i = c.loop-right.invariant in record {
  whole = turned c.args.rights.items c.loop-right.yielded c.loop-right.right-iterator.rest.items c.next.new.self.rest.items c.in-Some.right i.whole c.in-Some.ensures.steps.0;
  idle = subst (λ n. IsIdle c.args.pkg.now n [] c.forked-head.new.me) i.idle.number c.forked-head.ensures.idle;
  own = all-none (λ k. IsLeft c.args.pkg.now k) c.new-own-else-len-saturating_sub.result.items c.new-own-else-len-saturating_sub.ensures.items;
  heads = all-push (λ f. IsIdle c.args.pkg.now f.head.number [] f.head) c.loop-right.families.items c.push-else-len-saturating_sub.new.self.items _ c.in_ok-push-2.ensures.items i.heads
      (own-idle c.args.pkg.now c.in-Some.right.number [] c.forked-head.result c.forked-head.ensures.child);
  rights = all-push (λ f. AllAre (λ k. IsLeft c.args.pkg.now k) f.rights.items) c.loop-right.families.items c.push-else-len-saturating_sub.new.self.items _ c.in_ok-push-2.ensures.items i.rights i.own;
}
