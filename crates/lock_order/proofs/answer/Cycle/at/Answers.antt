use Rattle.std.proofs.Common.{length, ap, arith}
use Rattle.std.proofs.lemmas.List.{length-take}
use Rattle.lock_order.proofs.answer.Cycle.at.Goals as goal

pub offset_bounds-edges-k : goal.offset_bounds-edges-k
offset_bounds-edges-k c = omega (arith, ap length c.self.view_is, length-take c.self.inside.len c.self.inside.edges, c.requires, c.self.invariant.0)

pub bounds-edges-k : goal.bounds-edges-k
bounds-edges-k c = omega (arith, ap length c.self.view_is, length-take c.self.inside.len c.self.inside.edges, c.requires, c.self.invariant.0)
