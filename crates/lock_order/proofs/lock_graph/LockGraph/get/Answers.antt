use Rattle.std.proofs.Common.{sym, subst, rules}
use Rattle.lock_order.specs.declared.lock_graph.LockGraph.{LockGraph}
use Rattle.lock_order.specs.Kept.{HasEdge}
use Rattle.lock_order.proofs.Tables.{none_nested, got_from}
use Rattle.lock_order.proofs.lock_graph.LockGraph.get.Goals as goal
use Rattle.lock_order.proofs.lock_graph.LockGraph.get.Goals.{then-not-is_empty, else-not-is_empty}

pub returns : goal.returns
returns c =
    let old = c.args.self.now in
    let t = c.args.t.0 in
    let n = c.args.m.0 in
    let new = c.minus-new.result in
    let P : LockGraph → Type 0 = λ z. HasEdge old new t n c.args.place z in
    let edge : P c.if-not-is_empty.self = elim c.if-not-is_empty.branch [
      | then-not-is_empty w ↦ subst P (sym w.self-is) w.nest.ensures
      | else-not-is_empty w ↦ subst P (sym w.self-is) (none_nested old new t n c.args.place (c.is_empty.ensures.none (search rules)))
    ]
    in got_from old c.if-not-is_empty.self new c.with.result t n c.args.place edge c.minus-new.ensures (search rules) (search rules) c.with.ensures
