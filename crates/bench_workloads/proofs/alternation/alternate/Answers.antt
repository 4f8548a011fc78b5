use Rattle.std.proofs.Common.{◌+◌, arith, refl}
use Rattle.sum_uses.specs.Sums.{grown}
use Rattle.bench_workloads.specs.Workloads.{HasMade, HasTurned}
use Rattle.bench_workloads.proofs.Crewing.{at_end, said, turned, worked_more}
use Rattle.bench_workloads.proofs.alternation.alternate.Goals as goal

pub loop-i-init : goal.loop-i-init
loop-i-init g c = turned c.args.shared.now c.args.me.number 0 (HasMade 0) c.args.me c.requires.begun

pub take_turn-requires-clause-idle : goal.take_turn-requires-clause-idle
take_turn-requires-clause-idle g c = let w = c.loop-i.invariant in (c.args.me.number, w.share, w.idle)

pub take_turn-requires-clause-few : goal.take_turn-requires-clause-few
take_turn-requires-clause-few g c = λ s share.
    let now = said c.args.shared.now c.args.me.number c.loop-i._i (λ u. Unit {0}) c.loop-i.me c.loop-i.invariant s share in
    let loop = c.loop-i-test.true in
    omega arith

pub alert_first-requires-clause-rest : goal.alert_first-requires-clause-rest
alert_first-requires-clause-rest g c = let w = c.loop-i.invariant in (c.take_turn.ensures.idle c.args.me.number w.share w.idle).rest

pub loop-i-preserved : goal.loop-i-preserved
loop-i-preserved g c =
    let n = c.args.me.number in
    let w = c.loop-i.invariant in
    let x = c.take_turn.result in
    let idle = c.alert_first.ensures n (grown 0 x (x + 1) w.share) (c.take_turn.ensures.idle n w.share w.idle) in
    worked_more c.args.shared.now n c.loop-i._i (λ u. Unit {0}) c.loop-i.me w (λ u. Unit {0}) x (x + 1) c.alert_first.new.me refl idle tt

pub returns : goal.returns
returns g c = at_end (λ k. HasTurned c.args.shared.now c.args.me.number k c.loop-i.me) c.loop-i._i c.args.times c.loop-i-test.false c.loop-i.auto._i-end c.loop-i.invariant
