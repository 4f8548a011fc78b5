use Rattle.std.proofs.Common.{◌≡◌}
use Rattle.larch_actions.specs.Sets.{without}
use Rattle.nub_rule.specs.Objects.{object_of}
use Rattle.gate.proofs.take_bit.take_slowly.Given as goal

abbrev pub invariant-loop : goal.invariant-loop
invariant-loop g l = record {
  same : l.me ≡ record l.initial.me { part = record l.initial.me.part { count = l.me.count; failed = l.me.failed; turns = l.me.turns }; next = l.me.next };
  turns : without (object_of l.at) l.me.turns ≡ without (object_of l.at) l.initial.me.turns;
}
