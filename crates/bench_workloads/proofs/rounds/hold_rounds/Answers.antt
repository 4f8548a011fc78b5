use Rattle.std.proofs.Common.{◌≡◌, ◌+◌, [], arith, lit<, refl, sym, ◌∙◌}
use Rattle.nub_rule.specs.Plays.{acquire_event, release_event}
use Rattle.sum_uses.specs.Sums.{grown}
use Rattle.sum_uses.proofs.Adding.{added_own}
use Rattle.bench_workloads.specs.declared.rounds.Round.{Round}
use Rattle.bench_workloads.specs.declared.rounds.Round.TheVariants.{Opens, Counts, Begins}
use Rattle.bench_workloads.specs.Rounds.{HasHeld, alerts_in}
use Rattle.bench_workloads.specs.Waking.{raises}
use Rattle.bench_workloads.specs.Workloads.{HasWorked}
use Rattle.bench_workloads.proofs.Crewing.{at_end}
use Rattle.bench_workloads.proofs.Inside.{may_inside, none_raised, raised_by, took_inside}
use Rattle.bench_workloads.proofs.rounds.hold_rounds.Goals as goal

no_alerts : (round : Round) → alerts_in round 0 ≡ 0
no_alerts (Opens threads) = refl
no_alerts (Counts threads) = refl
no_alerts Begins = refl

pub loop-i-init : goal.loop-i-init
loop-i-init g c =
    let p = c.args.shared.now in
    let n = c.args.me.number in
    let w = c.requires.begun in
    let got = c.acquire-value.ensures in
    let me = c.acquire-value.new.me in
    let more = raised_by [] (acquire_event n 0) c.args.me me got.event in
    let none = none_raised c.args.me.mine w.is in
    let also = no_alerts c.args.round in
    (took_inside p n c.acquire-value.result 0 (alerts_in c.args.round 0) w.share me (got.holding n w.share w.idle) w.sum (omega arith) (omega arith), refl)

pub returns : goal.returns
returns g c =
    let p = c.args.shared.now in
    let n = c.args.me.number in
    let i = c.loop-i.invariant.0 in
    let idle = c.release.ensures.idle n i.share i.got i.holding in
    let own = added_own 0 i.got c.loop-i.value i.share in
    let sum = i.sum in
    let raised = i.raised in
    let more = raised_by [] (release_event c.loop-i.me.number 0) c.loop-i.me c.release.new.me c.release.ensures.event in
    at_end (λ k. HasWorked p n k (HasHeld c.args.round k c.loop-i.held) c.release.new.me) c.loop-i.i c.args.times c.loop-i-test.false c.loop-i.auto.i-end
    (record { share = grown 0 i.got c.loop-i.value i.share; idle = idle; sum = omega arith; is = (c.loop-i.invariant.1, omega arith) })
