use Rattle.std.proofs.Common.{◌≡◌, ◌++◌, []}
use Rattle.nub.specs.Idle.{IsIdle}
use Rattle.test_fork.specs.Families.{AllAre}
use Rattle.test_fork.proofs.chain.links.Given as goal

abbrev pub invariant-loop-right : goal.invariant-loop-right
invariant-loop-right g l = record {
  whole : l.fn.rights.items ≡ l.yielded ++ l.right-iterator.rest.items;
  idle : IsIdle l.pkg l.last.number [] l.last;
  links : AllAre (λ t. IsIdle l.pkg t.number [] t) l.links.items;
}
