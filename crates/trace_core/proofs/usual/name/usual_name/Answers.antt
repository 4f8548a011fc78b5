use Rattle.std.proofs.Common.{arith}
use Rattle.trace_core.proofs.UsualTexts.{name_there}
use Rattle.trace_core.proofs.usual.name.usual_name.Goals as goal

pub returns-clause-name : goal.returns-clause-name
returns-clause-name c =
    let d = c.digits_of-digits in
    name_there c.args.bytes.now c.args.at c.args.bound c.digit-first.result c.digit-second.result d.result.value d.result.end c.requires (c.digit-first.ensures (omega (arith, c.if-first-gt9.false))) c.digit-second.ensures
    (omega (arith, c.if-first-gt9.false)) d.ensures.long d.ensures.short c.if-digits-bound.false
