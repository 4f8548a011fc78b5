use Rattle.std.proofs.Common.{◌+◌, arith}
use Rattle.std.proofs.lemmas.Bool.Decides.{nat_tests}
use Rattle.nub.proofs.Users.{from_at}
use Rattle.bench_workloads.proofs.semaphores.turn_at_once.Goals as goal

pub returns-clause-each : goal.returns-clause-each
returns-clause-each g c = λ n t at.
    let run = c.in_ok-closed.ensures in
    let low = (from_at c.in_ok-closed.closed.threads n t at).0 in
    let count = run.count in
    let made = (run.each n t at).1.0 in
    grind (arith, nat_tests)
