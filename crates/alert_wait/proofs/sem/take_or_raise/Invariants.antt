use Rattle.std.proofs.Common.{◌≡◌, []}
use Rattle.larch_actions.specs.Sets.{without}
use Rattle.nub_rule.specs.Places.{sem_object}
use Rattle.alert_wait.proofs.sem.take_or_raise.Given as goal

abbrev pub invariant-loop : goal.invariant-loop
invariant-loop g l = record {
  same : l.me ≡ record l.initial.me { part = record l.initial.me.part { count = l.me.count; failed = l.me.failed; turns = l.me.turns; alerted = l.me.alerted }; next = l.me.next };
  turns : without (sem_object l.s.0) l.me.turns ≡ [];
}
