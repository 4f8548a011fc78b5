use Rattle.std.proofs.Common.{arith}
use Rattle.bench_workloads.specs.Workloads.{HasMade, HasWorked}
use Rattle.bench_workloads.proofs.Crewing.{at_end}
use Rattle.bench_workloads.proofs.calls.call_many.Goals as goal

pub loop-i-preserved : goal.loop-i-preserved
loop-i-preserved g c =
    let was = c.loop-i.invariant in
    let made = was.is in
    let one = c.call.ensures.made in
    record { share = was.share; idle = c.call.ensures.idle c.args.me.number was.share was.idle; sum = was.sum; is = omega arith }
