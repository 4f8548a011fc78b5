use Rattle.std.proofs.Common.{◌≡◌, ◌+◌, false, [], ◌∷◌, arith}
use Rattle.nub_rule.specs.Plays.{enqueue_event}
use Rattle.condition.specs.Waits.{resume_event}
use Rattle.bench_workloads.proofs.Inside.{may_inside, waited_inside}
use Rattle.bench_workloads.proofs.rounds.wait_inside.Goals as goal

pub wait-value-requires-clause-rest : goal.wait-value-requires-clause-rest
wait-value-requires-clause-rest g c κs within = let i = c.requires.inside in (c.loop.invariant i.0 i.1 i.2 i.3).holding.rest

pub wait-value-requires-clause-may : goal.wait-value-requires-clause-may
wait-value-requires-clause-may g c κs within =
    let i = c.requires.inside in
    may_inside c.args.shared.now i.0 c.loop.value i.1 i.2 c.loop.me (c.loop.invariant i.0 i.1 i.2 i.3)

pub loop-preserved : goal.loop-preserved
loop-preserved g c = λ n times alerts i.
    let w = c.wait-value.ensures in
    let t = c.loop.me.number in
    let d = c.args.c.0 in
    waited_inside c.args.shared.now n c.loop.value c.wait-value.result times alerts alerts (enqueue_event false t 0 d ∷ []) (resume_event t 0 d) c.loop.me c.wait-value.new.me (c.loop.invariant n times alerts i) w.event (omega arith) w.holding
