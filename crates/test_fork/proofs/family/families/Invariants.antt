use Rattle.std.proofs.Common.{◌≡◌, ◌++◌, []}
use Rattle.nub.specs.Forks.{IsLeft}
use Rattle.nub.specs.Idle.{IsIdle}
use Rattle.test_fork.specs.Families.{AllAre}
use Rattle.test_fork.proofs.family.families.Given as goal

abbrev pub invariant-loop-right : goal.invariant-loop-right
invariant-loop-right g l = record {
  whole : l.fn.rights.items ≡ l.yielded ++ l.right-iterator.rest.items;
  idle : IsIdle l.pkg l.initial.me.number [] l.me;
  own : AllAre (λ k. IsLeft l.pkg k) l.own.items;
  heads : AllAre (λ f. IsIdle l.pkg f.head.number [] f.head) l.families.items;
  rights : AllAre (λ f. AllAre (λ k. IsLeft l.pkg k) f.rights.items) l.families.items;
}
