use Rattle.bench_workloads.specs.Workloads.{HasMade, HasWorked}
use Rattle.bench_workloads.proofs.calls.call_many.Given as goal

abbrev pub invariant-loop-i : goal.invariant-loop-i
invariant-loop-i g l = HasWorked l.shared l.initial.me.number 0 (HasMade l._i) l.me
