use Rattle.std.proofs.Common.{◌≡◌}
use Rattle.larch_actions.specs.Sets.{without}
use Rattle.gate.proofs.take_bit.take_quiet.Given as goal

abbrev pub invariant-loop : goal.invariant-loop
invariant-loop g l = record {
  same : l.me ≡ record l.initial.me { part = record l.initial.me.part { count = l.me.count; failed = l.me.failed; turns = l.me.turns } };
  turns : without l.m.0 l.me.turns ≡ without l.m.0 l.initial.me.turns;
}
