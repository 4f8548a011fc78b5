use Rattle.std.proofs.Common.{arith}
use Rattle.script_search.specs.Keys.{read_thread}
use Rattle.script_search.proofs.Unpacked.{read_first, read_more, read_last}
use Rattle.script_search.proofs.unpack.threads.Goals as goal

pub loop-k-init : goal.loop-k-init
loop-k-init c = read_first read_thread c.args.count c.args.bytes.now c.in_ok-threads.threads.items c.in_ok-threads.ensures.items

pub loop-k-preserved : goal.loop-k-preserved
loop-k-preserved c =
    read_more read_thread c.args.count c.args.bytes.now c.loop-k.k c.loop-k.threads.items c.push.new.self.items c.thread.result.0 c.loop-k.rest.now c.thread.result.1.now c.loop-k-test.true
    c.thread.ensures c.in_ok-push.ensures.items c.loop-k.invariant

pub returns : goal.returns
returns c = read_last read_thread c.args.count c.args.bytes.now c.loop-k.k c.loop-k.threads.items c.loop-k.rest.now (omega (arith, c.loop-k-test.false)) c.loop-k.invariant
