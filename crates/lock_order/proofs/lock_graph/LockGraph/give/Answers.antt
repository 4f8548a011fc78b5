use Rattle.std.proofs.Common.{refl, cond, eqb, false, rules}
use Rattle.lock_order.proofs.Tables.{set_word}
use Rattle.lock_order.proofs.lock_graph.LockGraph.give.Goals as goal

pub returns : goal.returns
returns c = record {
  held = set_word c.args.self.now.held c.args.t.0 c.without-rest.result (λ m b. cond (eqb c.args.m.0 m) false b) (search rules) c.without-rest.ensures.members;
  outers = refl;
  firsts = refl;
}
