use Rattle.std.proofs.Common.{refl}
use Rattle.bench_workloads.proofs.Crewing.{two_are}
use Rattle.bench_workloads.proofs.alert_waits.alert_at_once.Goals as goal

pub returns-clause-alerted : goal.returns-clause-alerted
returns-clause-alerted g c =
    let run = c.in_ok-closed.ensures in
    two_are c.in_ok-closed.alerted.items c.args.times 0 run.lefts_count (λ x at. ((run.each_left 0 x at).1.0 refl).0) (λ x at. (run.each_left 1 x at).1.1 (λ e. absurd (cc)))
