use Rattle.std.proofs.Common.{inl, inr, refl}
use Rattle.trace_picture.proofs.rings.end_ordered.Goals as goal

pub cycle_in-requires : goal.cycle_in-requires
cycle_in-requires g c = c.requires.noted.2.low

pub returns-in-Some-clause-ended : goal.returns-in-Some-clause-ended
returns-in-Some-clause-ended g c = λ es now k. (_, inl (c.in-Some.cycle, c.in-Some.ensures es now k, refl), (c.end_ringed.ensures.ok, c.end_ringed.ensures.err))

pub returns-in-None-clause-ended : goal.returns-in-None-clause-ended
returns-in-None-clause-ended g c = λ es now k. (_, inr (c.in-None.ensures es now k, refl), (c.end_with.ensures.ok, c.end_with.ensures.err))
