use Rattle.std.proofs.Common.{arith}
use Rattle.exact_text.proofs.long_intake.LongIntake.fill.Goals as goal

pub invariant_of-self-inside-2 : goal.invariant_of-self-inside-2
invariant_of-self-inside-2 g c = let i = c.fill.new.self in (omega (arith, i.read, c.move_over.ensures.shorter), (i.within, (i.below, tt)))
