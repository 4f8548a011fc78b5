use Rattle.std.proofs.Common.{◌≡◌}
use Rattle.nub.specs.Rest.{AtRest}
use Rattle.nub.proofs.forking.join_thread.Given as goal

abbrev pub invariant-loop : goal.invariant-loop
invariant-loop g l = record {
  same : l.me ≡ record l.initial.me { next = l.me.next };
  rest : AtRest l.p l.me;
}
