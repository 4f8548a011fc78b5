use Rattle.lock_order.proofs.Reading.{noted_of, order_just}
use Rattle.lock_order.proofs.order.order_all.Goals as goal

pub order_of-requires : goal.order_of-requires
order_of-requires g c =
    let n = noted_of _ _ _ _ _ _ c.in-Legal.summary _ _ (λ l es k now run. k.1 c.new.ensures k.0 now run) (rw c.in-Legal.is at c.in-Ok.ensures.watched) in n.2.low

pub returns-in-Legal-clause-just : goal.returns-in-Legal-clause-just
returns-in-Legal-clause-just g c =
    let n = noted_of _ _ _ _ _ _ c.in-Legal.summary _ _ (λ l es k now run. k.1 c.new.ensures k.0 now run) (rw c.in-Legal.is at c.in-Ok.ensures.watched) in
    order_just _ _ _ _ _ c.in-Legal.summary _ c.order_of.result n (c.order_of.ensures n.0 n.1 n.3 n.2)
