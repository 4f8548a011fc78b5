use Rattle.std.proofs.Common.{arith}
use Rattle.index_text.proofs.Numerals.{led}
use Rattle.index_text.proofs.token.capped_numeral.Goals as goal

pub loop-rest-init : goal.loop-rest-init
loop-rest-init c =
    let l = led c.args.stop c.in-Ok.read.0 c.args.bytes.now c.in-Ok.read.1.now c.in-Ok.ensures in
    (c.in-Ok.read.0, omega (arith, l.small), l.same)
