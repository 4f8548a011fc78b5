use Rattle.bench_workloads.specs.Workloads.{StaysInside}
use Rattle.bench_workloads.proofs.alert_waits.wait_for_alert.Given as goal

abbrev pub invariant-loop : goal.invariant-loop
invariant-loop g l = StaysInside l.shared l.mine l.value l.initial.me l.me
