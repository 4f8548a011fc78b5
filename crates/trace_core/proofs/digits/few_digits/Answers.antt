use Rattle.std.proofs.Common.{◌<◌, ◌/◌, sym, arith}
use Rattle.itoa.proofs.Decimal.{length_one, length_two, length_pair}
use Rattle.trace_core.proofs.digits.few_digits.Goals as goal

pub returns-then-n-lt10-clause-count : goal.returns-then-n-lt10-clause-count
returns-then-n-lt10-clause-count c = sym (length_one c.args.n c.if-n-lt10.true)

pub returns-then-n-lt100-clause-count : goal.returns-then-n-lt100-clause-count
returns-then-n-lt100-clause-count c = sym (length_two c.args.n (omega (arith, c.if-n-lt10.false)) c.if-n-lt100.true)

pub returns-then-n-lt1000-clause-count : goal.returns-then-n-lt1000-clause-count
returns-then-n-lt1000-clause-count c =
    let n = c.args.n in
    let small : n / 100 < 10 = omega (arith, c.if-n-lt1000.true) in
    omega (arith, length_pair n (omega (arith, c.if-n-lt100.false)) (omega (arith, c.if-n-lt1000.true)), length_one (n / 100) small)

pub returns-else-n-lt1000-clause-count : goal.returns-else-n-lt1000-clause-count
returns-else-n-lt1000-clause-count c =
    let n = c.args.n in
    omega (
      arith,
      length_pair n (omega (arith, c.if-n-lt100.false)) (omega (arith, c.requires)),
      length_two (n / 100) (omega (arith, c.if-n-lt1000.false)) (omega (arith, c.requires)),
    )
