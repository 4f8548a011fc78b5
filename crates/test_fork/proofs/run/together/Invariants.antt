use Rattle.std.proofs.Common.{◌≡◌, ◌++◌}
use Rattle.nub.specs.Forks.{IsLeft}
use Rattle.test_fork.specs.Families.{AllAre}
use Rattle.test_fork.proofs.run.together.Given as goal

abbrev pub invariant-loop-family : goal.invariant-loop-family
invariant-loop-family l = record {
  whole : l.fn.families.items ≡ l.yielded ++ l.family-iterator.rest.items;
  all : AllAre (λ k. IsLeft l.pkg k) l.all.items;
}
