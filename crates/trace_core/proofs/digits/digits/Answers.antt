use Rattle.std.proofs.Common.{arith}
use Rattle.itoa.proofs.Decimal.{length_four}
use Rattle.trace_core.proofs.digits.digits.Goals as goal

pub returns-else-n-lt10000-clause-count : goal.returns-else-n-lt10000-clause-count
returns-else-n-lt10000-clause-count c =
    omega (arith, c.few_digits-else-n-lt10000.ensures.count, length_four c.args.n (omega (arith, c.if-n-lt10000.false)) (omega (arith, c.requires)))
