use Rattle.bench_workloads.specs.Workloads.{HasPassed, HasWorked}
use Rattle.bench_workloads.proofs.semaphores.turn.Given as goal

abbrev pub invariant-loop-i : goal.invariant-loop-i
invariant-loop-i g l = HasWorked l.shared l.initial.me.number 0 (HasPassed l._i l.initial.me.number l.number) l.me
