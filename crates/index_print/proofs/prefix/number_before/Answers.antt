use Rattle.std.proofs.Common.{arith}
use Rattle.std.proofs.lemmas.Fmt.{length-decimal-le}
use Rattle.index_print.proofs.prefix.number_before.Goals as goal

pub write_digits-requires : goal.write_digits-requires
write_digits-requires c = let short = length-decimal-le 20 c.args.number (omega arith) (omega (arith, c.ranges.number)) (omega (arith, c.ranges.number)) in (omega (arith, short, c.requires.room), c.requires.within)

pub returns-clause-near : goal.returns-clause-near
returns-clause-near c =
    let short = length-decimal-le 20 c.args.number (omega arith) (omega (arith, c.ranges.number)) (omega (arith, c.ranges.number)) in
    omega (arith, short, c.write_digits.ensures.start)
