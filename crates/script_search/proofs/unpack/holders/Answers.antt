use Rattle.std.proofs.Common.{arith}
use Rattle.script_search.specs.Keys.{read_holder}
use Rattle.script_search.proofs.Unpacked.{read_first, read_more, read_last}
use Rattle.script_search.proofs.unpack.holders.Goals as goal

pub loop-k-init : goal.loop-k-init
loop-k-init c = read_first read_holder c.args.count c.args.bytes.now c.in_ok-holders.holders.items c.in_ok-holders.ensures.items

pub loop-k-preserved : goal.loop-k-preserved
loop-k-preserved c =
    read_more read_holder c.args.count c.args.bytes.now c.loop-k.k c.loop-k.holders.items c.push.new.self.items c.holder-next.result.0 c.loop-k.rest.now c.holder-next.result.1.now c.loop-k-test.true
    c.holder-next.ensures c.in_ok-push.ensures.items c.loop-k.invariant

pub returns : goal.returns
returns c = read_last read_holder c.args.count c.args.bytes.now c.loop-k.k c.loop-k.holders.items c.loop-k.rest.now (omega (arith, c.loop-k-test.false)) c.loop-k.invariant
