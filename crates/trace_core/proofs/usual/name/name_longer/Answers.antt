use Rattle.std.proofs.Common.{arith}
use Rattle.trace_core.proofs.UsualTexts.{longer_name}
use Rattle.trace_core.proofs.usual.name.name_longer.Goals as goal

pub returns-clause-name : goal.returns-clause-name
returns-clause-name c =
    let x = c.args.name in
    let next = c.digit-next in record {
      below = c.if-value-bound.false;
      text =
          longer_name c.args.bytes.now c.args.at x.value next.result x.end c.requires.within c.requires.name.text (next.ensures (omega (arith, c.if-next-gt9.false))) (omega (arith, c.if-name-lt1.false)) (omega (arith, c.requires.small))
          c.if-next-gt9.false;
    }
