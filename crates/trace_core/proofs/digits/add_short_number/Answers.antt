use Rattle.std.proofs.Common.{arith}
use Rattle.trace_core.proofs.InPlace.{in_place}
use Rattle.trace_core.proofs.digits.add_short_number.Goals as goal

pub returns-clause-text : goal.returns-clause-text
returns-clause-text c =
    let w = c.write_digits.ensures in
    let wanted = c.digits.ensures in
    in_place _ _ _ _ _ _ w.start (omega (arith, wanted.count)) (omega (arith, wanted.few, c.requires.room)) w.written w.before
