use Rattle.std.proofs.Common.{◌≡◌, sym, subst, rules}
use Rattle.lock_order.specs.Order.{first_or, ReportsCycle}
use Rattle.lock_order.specs.Circles.{links}
use Rattle.lock_order.proofs.Events.{not_itself}
use Rattle.lock_order.proofs.Linked.{tells, kept_cycle}
use Rattle.lock_order.proofs.Peeling.{no_cycle}
use Rattle.lock_order.proofs.Walks.{is_cycle}
use Rattle.lock_order.proofs.cycle.cycle_in.Goals as goal

pub returns-then-is_empty : goal.returns-then-is_empty
returns-then-is_empty c = λ es now kept h. no_cycle c.args.graph.now c.cyclic_core-core.result h.0 c.cyclic_core-core.ensures.all (c.is_empty.ensures.none (search rules)) (kept_cycle es now c.args.graph.now h.0 kept h.1)

pub returns : goal.returns
returns c = λ es now kept.
    let k = c.args.graph.now in
    let ms = c.turn.new.circle.items in
    let cycle = is_cycle k ms (λ m b. not_itself kept.version es now m _ _ kept.run (kept.edge m m b)) c.turn.ensures.circle in
    let reported : c.cycle_of.result ≡ links k ms (first_or 0 ms) = subst (λ l. c.cycle_of.result ≡ links k l (first_or 0 l)) c.as_slice.ensures.value c.cycle_of.ensures in
    subst (ReportsCycle es) (sym reported) (tells es now k ms kept cycle c.turn.ensures.least)
