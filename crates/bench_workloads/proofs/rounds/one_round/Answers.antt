use Rattle.std.proofs.Common.{◌≡◌, ◌+◌, arith, refl, sym, subst}
use Rattle.bench_workloads.specs.Rounds.{alerts_in}
use Rattle.bench_workloads.specs.Workloads.{IsInside}
use Rattle.bench_workloads.proofs.Inside.{one_more_inside, said_inside}
use Rattle.bench_workloads.proofs.rounds.one_round.Goals as goal

pub wait_inside-requires-clause-inside : goal.wait_inside-requires-clause-inside
wait_inside-requires-clause-inside g c =
    let i = c.requires.inside in
    let k = c.args.before in
    let alerts = alerts_in c.args.round k in
    (i.0, k + 1, alerts, said_inside c.args.shared.now c.args.mine c.args.me.now c.call.new.me c.call.ensures.raised c.call.ensures.holding i.0 k alerts i.1 (omega arith))

pub overflow_add-value : goal.overflow_add-value
overflow_add-value g c =
    let i = c.requires.inside in
    let begun = c.wait_inside-begun.ensures.stays i.0 c.args.before (alerts_in c.args.round c.args.before) i.1 in
    let rises = begun.rises in
    let sum = begun.sum in
    let few = begun.few in
    let small = begun.above.small in
    omega arith

pub end_round-requires-clause-inside : goal.end_round-requires-clause-inside
end_round-requires-clause-inside g c =
    let i = c.requires.inside in
    let k = c.args.before in
    let alerts = alerts_in c.args.round k in
    let w = c.wait_inside-begun in
    (i.0, k + 1, alerts, one_more_inside c.args.shared.now i.0 w.result k alerts w.new.me (w.ensures.stays i.0 k alerts i.1) (omega arith))

pub wait_for_alert-requires-clause-inside : goal.wait_for_alert-requires-clause-inside
wait_for_alert-requires-clause-inside g c =
    let i = c.requires.inside in
    let k = c.args.before in
    let alerts = alerts_in c.args.round k in
    let b = c.call-in-Begins in
    (i.0, k + 1, alerts, said_inside c.args.shared.now c.args.mine c.args.me.now b.new.me b.ensures.raised b.ensures.holding i.0 k alerts i.1 (omega arith))

pub returns-in-Opens : goal.returns-in-Opens
returns-in-Opens g c = λ n i.
    let p = c.args.shared.now in
    let k = c.args.before in
    let alerts = alerts_in c.args.round k in
    let said = said_inside p c.args.mine c.args.me.now c.call.new.me c.call.ensures.raised c.call.ensures.holding n k alerts i (omega arith) in
    let none = subst (λ r. alerts_in r k ≡ alerts_in r (k + 1)) (sym c.in-Opens.is) refl in
    subst (λ m. IsInside p n c.wait_inside.result (k + 1) m c.wait_inside.new.me) none (c.wait_inside.ensures.stays n (k + 1) alerts said)

pub returns-in-Counts : goal.returns-in-Counts
returns-in-Counts g c = λ n i.
    let p = c.args.shared.now in
    let k = c.args.before in
    let alerts = alerts_in c.args.round k in
    let w = c.wait_inside-begun in
    let more = one_more_inside p n w.result k alerts w.new.me (w.ensures.stays n k alerts i) (omega arith) in
    let none = subst (λ r. alerts_in r k ≡ alerts_in r (k + 1)) (sym c.in-Counts.is) refl in
    subst (λ m. IsInside p n (w.result + 1) (k + 1) m c.end_round.new.me) none (c.end_round.ensures n (k + 1) alerts more)

pub returns-in-Begins : goal.returns-in-Begins
returns-in-Begins g c = λ n i.
    let p = c.args.shared.now in
    let k = c.args.before in
    let alerts = alerts_in c.args.round k in
    let b = c.call-in-Begins in
    let said = said_inside p c.args.mine c.args.me.now b.new.me b.ensures.raised b.ensures.holding n k alerts i (omega arith) in
    let one = subst (λ r. alerts_in r k + 1 ≡ alerts_in r (k + 1)) (sym c.in-Begins.is) refl in
    subst (λ m. IsInside p n c.wait_for_alert.result (k + 1) m c.wait_for_alert.new.me) one (c.wait_for_alert.ensures n (k + 1) alerts said)
