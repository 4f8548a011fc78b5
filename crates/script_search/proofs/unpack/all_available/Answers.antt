use Rattle.std.proofs.Common.{ℕ, Bool, List, arith, ap}
use Rattle.script_search.specs.Keys.{read_available}
use Rattle.script_search.proofs.Unpacked.{read_first, read_more, read_last}
use Rattle.script_search.proofs.unpack.all_available.Goals as goal

pub loop-k-init : goal.loop-k-init
loop-k-init c = read_first read_available c.args.count c.args.bytes.now c.in_ok-all.all.items c.in_ok-all.ensures.items

pub loop-k-preserved : goal.loop-k-preserved
loop-k-preserved c =
    read_more read_available c.args.count c.args.bytes.now c.loop-k.k c.loop-k.all.items c.push.new.self.items c.available-next.result.0 c.loop-k.rest.now c.available-next.result.1.now c.loop-k-test.true
    c.available-next.ensures c.in_ok-push.ensures.items c.loop-k.invariant

pub returns : goal.returns
returns c = ap (λ (q : List Bool × List ℕ). q.0) (read_last read_available c.args.count c.args.bytes.now c.loop-k.k c.loop-k.all.items c.loop-k.rest.now (omega (arith, c.loop-k-test.false)) c.loop-k.invariant)
