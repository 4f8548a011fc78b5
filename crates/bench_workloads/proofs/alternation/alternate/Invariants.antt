use Rattle.bench_workloads.specs.Workloads.{HasTurned}
use Rattle.bench_workloads.proofs.alternation.alternate.Given as goal

abbrev pub invariant-loop-i : goal.invariant-loop-i
invariant-loop-i g l = HasTurned l.shared l.initial.me.number l._i l.me
