use Rattle.std.proofs.Common.{◌≡◌}
use Rattle.bench_workloads.specs.Rounds.{alerts_in}
use Rattle.bench_workloads.specs.Workloads.{IsInside}
use Rattle.bench_workloads.proofs.rounds.hold_rounds.Given as goal

abbrev pub invariant-loop-i : goal.invariant-loop-i
invariant-loop-i g l = IsInside l.shared l.fn.me.number l.value l.i (alerts_in l.round l.i) l.me × (l.held ≡ l.i)
