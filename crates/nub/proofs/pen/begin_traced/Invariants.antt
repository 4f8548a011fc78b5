use Rattle.std.proofs.Common.{◌≡◌}
use Rattle.nub.proofs.pen.begin_traced.Given as goal

abbrev pub invariant-loop : goal.invariant-loop
invariant-loop g l = l.me ≡ record l.initial.me { next = l.me.next }
