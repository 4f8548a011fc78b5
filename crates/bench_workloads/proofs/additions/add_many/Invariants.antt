use Rattle.std.proofs.Common.{◌*◌}
use Rattle.bench_workloads.specs.Workloads.{HasMade, HasWorked}
use Rattle.bench_workloads.proofs.additions.add_many.Given as goal

abbrev pub invariant-loop-i : goal.invariant-loop-i
invariant-loop-i g l = HasWorked l.shared l.initial.me.number l._i (HasMade (2 * l._i)) l.me
