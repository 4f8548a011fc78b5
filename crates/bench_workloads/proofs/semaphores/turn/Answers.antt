use Rattle.std.proofs.Common.{length, refl, arith, ap, ◌∙◌}
use Rattle.bench_workloads.specs.Workloads.{HasPassed, HasWorked}
use Rattle.bench_workloads.proofs.Crewing.{at_end, one_more}
use Rattle.bench_workloads.proofs.semaphores.turn.Goals as goal

pub loop-i-preserved : goal.loop-i-preserved
loop-i-preserved g c =
    let n = c.args.me.number in
    let w = c.loop-i.invariant in
    let made = w.is in
    let one = ap length c.p.ensures.event.mine ∙ one_more c.loop-i.me.mine _ in
    let two = ap length c.v.ensures.event.mine ∙ one_more c.p.new.me.mine _ in
    record { share = w.share; idle = c.v.ensures.idle n w.share (c.p.ensures.idle n w.share w.idle); sum = w.sum; is = (omega arith, omega arith) }
