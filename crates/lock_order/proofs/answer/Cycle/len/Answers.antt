use Rattle.std.proofs.Common.{length, ap, arith}
use Rattle.std.proofs.lemmas.List.{length-take}
use Rattle.lock_order.proofs.answer.Cycle.len.Goals as goal

pub returns-clause-count : goal.returns-clause-count
returns-clause-count c = omega (arith, ap length c.self.view_is, length-take c.self.inside.len c.self.inside.edges, c.self.invariant.0, c.self.invariant.1)
