use Rattle.std.proofs.Common.{◌+◌, [], arith, ap, length, ◌∙◌}
use Rattle.nub_rule.specs.Plays.{broadcast_action, event, signal_action}
use Rattle.bench_workloads.proofs.Crewing.{one_more}
use Rattle.bench_workloads.proofs.Inside.{raised_by}
use Rattle.bench_workloads.proofs.calls.call.Goals as goal

pub returns-then-all-clause-raised : goal.returns-then-all-clause-raised
returns-then-all-clause-raised g c =
    let a = c.args.me.now in
    let more = raised_by [] (event a.number (broadcast_action c.args.c.0 [])) a c.broadcast.new.me c.broadcast.ensures.event in
    omega arith

pub returns-else-all-clause-raised : goal.returns-else-all-clause-raised
returns-else-all-clause-raised g c =
    let a = c.args.me.now in
    let s = c.signal.ensures.event in
    let more = raised_by [] (event a.number (signal_action c.args.c.0 s.0)) a c.signal.new.me s.1 in
    omega arith
