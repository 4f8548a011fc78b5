use Rattle.nub.proofs.pen.end_traced.Goals as goal

pub store_event-requires-after_bounds : goal.store_event-requires-after_bounds
store_event-requires-after_bounds g c κs within = c.requires.last c.in-Some.event c.in-Some.is
