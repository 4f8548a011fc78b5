use Rattle.std.proofs.Common.{◌≡◌, ◌+◌, true, [], ◌∷◌, arith, ap}
use Rattle.nub_rule.specs.Plays.{enqueue_event}
use Rattle.alert_wait.specs.Outcomes.{wait_end}
use Rattle.bench_workloads.specs.Waking.{raises}
use Rattle.bench_workloads.proofs.Inside.{may_inside, waited_inside}
use Rattle.bench_workloads.proofs.alert_waits.wait_for_alert.Goals as goal

pub alert_wait-outcome-requires-clause-rest : goal.alert_wait-outcome-requires-clause-rest
alert_wait-outcome-requires-clause-rest g c κs within = let i = c.requires.inside in (c.loop.invariant i.0 i.1 i.2 i.3).holding.rest

pub alert_wait-outcome-requires-clause-may : goal.alert_wait-outcome-requires-clause-may
alert_wait-outcome-requires-clause-may g c κs within =
    let i = c.requires.inside in
    may_inside c.args.shared.now i.0 c.loop.value i.1 i.2 c.loop.me (c.loop.invariant i.0 i.1 i.2 i.3)

pub loop-preserved : goal.loop-preserved
loop-preserved g c = λ n times alerts i.
    let w = c.alert_wait-outcome.ensures in
    let t = c.loop.me.number in
    let d = c.args.c.0 in
    let o = c.alert_wait-outcome.result in
    let ends = ap (λ x. raises (wait_end x t 0 d ∷ [])) c.in-Returned.is in
    waited_inside c.args.shared.now n c.loop.value o.1 times alerts alerts (enqueue_event true t 0 d ∷ []) (wait_end o.0 t 0 d) c.loop.me c.alert_wait-outcome.new.me (c.loop.invariant n times alerts i) w.event (omega arith) w.holding

pub returns-in-Alerted : goal.returns-in-Alerted
returns-in-Alerted g c = λ n times alerts i.
    let w = c.alert_wait-outcome.ensures in
    let t = c.loop.me.number in
    let d = c.args.c.0 in
    let o = c.alert_wait-outcome.result in
    let ends = ap (λ x. raises (wait_end x t 0 d ∷ [])) c.in-Alerted.is in
    waited_inside c.args.shared.now n c.loop.value o.1 times alerts (alerts + 1) (enqueue_event true t 0 d ∷ []) (wait_end o.0 t 0 d) c.loop.me c.alert_wait-outcome.new.me (c.loop.invariant n times alerts i) w.event (omega arith) w.holding
