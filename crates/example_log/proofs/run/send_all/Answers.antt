use Rattle.std.proofs.Common.{◌≡◌, arith, rules}
use Rattle.firefly_threads.specs.Laws.{range_more}
use Rattle.example_log.proofs.run.send_all.Goals as goal

pub loop-i-preserved : goal.loop-i-preserved
loop-i-preserved g c =
    let sent = c.send.ensures c.args.me.now.number _ c.loop-i.invariant in
    let more = range_more c.args.first c.loop-i.i in
    search rules

pub returns : goal.returns
returns g c =
    let over = c.loop-i-test.false in
    let all : c.loop-i.i ≡ c.args.count = omega arith in
    let left = c.leave.ensures c.args.me.now.number _ c.loop-i.invariant in
    search rules
