use Rattle.firefly_threads.specs.Names.{IsIdle}
use Rattle.example_log.specs.Mails.{has_sent}
use Rattle.example_log.proofs.run.send_all.Given as goal

abbrev pub invariant-loop-i : goal.invariant-loop-i
invariant-loop-i g l = IsIdle l.p l.initial.me.number (has_sent l.first l.i) l.me
