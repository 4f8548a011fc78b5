use Rattle.std.proofs.Common.{◌≡◌, [], false}
use Rattle.firefly_threads.specs.Names.{IsIdle}
use Rattle.example_log.specs.declared.mail.Deeds.{Deeds}
use Rattle.example_log.proofs.run.receive_all.Given as goal

abbrev pub invariant-loop : goal.invariant-loop
invariant-loop g l = (s : Deeds) × IsIdle l.p l.initial.me.number s l.me × (s.sent ≡ []) × (l.log.lost ≡ false → s.received ≡ l.log.items.items)
