use Rattle.nub.specs.Forks.{IsLeft}
use Rattle.test_fork.specs.Families.{AllAre}
use Rattle.test_fork.proofs.Lists.{all-appended, next-is, turned}
use Rattle.test_fork.proofs.run.together.Goals as goal

pub loop-family-preserved : goal.loop-family-preserved
loop-family-preserved c = let i = c.loop-family.invariant in record {
  whole = turned c.args.families.items c.loop-family.yielded c.loop-family.family-iterator.rest.items c.next.new.self.rest.items c.in-Some.family i.whole c.in-Some.ensures.steps.0;
  all = all-appended (λ k. IsLeft c.args.pkg.now k) c.loop-family.all.items c.in-Some.family.items c.append.new.self.items c.in_ok-append.ensures.items i.all
      (next-is (λ v. AllAre (λ k. IsLeft c.args.pkg.now k) v.items) c.args.families.items c.loop-family.yielded c.loop-family.family-iterator.rest.items c.next.new.self.rest.items c.in-Some.family i.whole c.in-Some.ensures.steps.0 c.requires.families);
}
