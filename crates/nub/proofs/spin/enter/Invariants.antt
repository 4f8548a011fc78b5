use Rattle.std.proofs.Common.{◌≡◌}
use Rattle.nub.proofs.spin.enter.Given as goal

abbrev pub invariant-loop : goal.invariant-loop
invariant-loop g l = l.me ≡ l.initial.me
