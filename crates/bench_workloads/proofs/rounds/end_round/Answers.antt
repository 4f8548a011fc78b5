use Rattle.bench_workloads.proofs.Inside.{kept_inside}
use Rattle.bench_workloads.proofs.rounds.end_round.Goals as goal

pub returns-then-mine-end : goal.returns-then-mine-end
returns-then-mine-end g c = kept_inside c.args.shared.now c.args.mine c.args.me.now c.call.new.me c.call.ensures.raised c.call.ensures.holding
