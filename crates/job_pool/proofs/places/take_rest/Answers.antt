use Rattle.std.proofs.Common.{◌∷◌, [], ◌++◌, Some, set, sym, subst}
use Rattle.job_pool.specs.Batches.{IsPlaced}
use Rattle.job_pool.specs.Slots.{MayBeWorked}
use Rattle.job_pool.specs.Working.{takes_of}
use Rattle.job_pool.proofs.Moving.{moved_on, still}
use Rattle.job_pool.proofs.Placing.{placed_one}
use Rattle.job_pool.proofs.places.take_rest.Goals as goal

pub loop-init : goal.loop-init
loop-init g c = record { moved = ([], still c.args.p.now c.args.me.now); placed = c.requires.placed }

pub take_next-requires-clause-between : goal.take_next-requires-clause-between
take_next-requires-clause-between g c κs within = let d = c.requires.between in (d.0, c.loop.invariant.moved.1.between d.0 d.1)

pub loop-preserved-in-Ok : goal.loop-preserved-in-Ok
loop-preserved-in-Ok g c =
    let at = c.loop in
    let was = at.invariant in
    let i = c.in-Ok.item in
    let took = c.in-Ok.ensures.took in
    let goes = MayBeWorked g.J.Job.state g.J.Job.gives g.J.Job.next in
    record {
      moved = (i ∷ [] ++ was.moved.0, moved_on c.args.p.now [] was.moved.0 [] (i ∷ []) c.args.me.now at.me c.take_next.new.me was.moved.1 took);
      placed = subst (λ r. IsPlaced goes (takes_of c.take_next.new.me) r) (sym c.place.ensures)
          (subst (λ l. IsPlaced goes l (set at.places i.place (Some i.batch))) (sym took.takes_are) (placed_one goes (takes_of at.me) i at.places was.placed));
    }

pub loop-preserved : goal.loop-preserved
loop-preserved g c =
    let at = c.loop in
    let was = at.invariant in
    let end = c.in-Err-Alerted.ensures.end.0 in
    let goes = MayBeWorked g.J.Job.state g.J.Job.gives g.J.Job.next in
    record {
      moved = (was.moved.0, moved_on c.args.p.now [] was.moved.0 [] [] c.args.me.now at.me c.take_next.new.me was.moved.1 end);
      placed = subst (λ l. IsPlaced goes l at.places) (sym end.takes_are) was.placed;
    }

pub returns-in-Err-ClosedEmpty-clause-moved : goal.returns-in-Err-ClosedEmpty-clause-moved
returns-in-Err-ClosedEmpty-clause-moved g c =
    let at = c.loop in
    let was = at.invariant in
    (was.moved.0, moved_on c.args.p.now [] was.moved.0 [] [] c.args.me.now at.me c.take_next.new.me was.moved.1 c.in-Err-ClosedEmpty.ensures.end.0)

pub returns-in-Err-ClosedEmpty-clause-placed : goal.returns-in-Err-ClosedEmpty-clause-placed
returns-in-Err-ClosedEmpty-clause-placed g c =
    let at = c.loop in
    subst (λ l. IsPlaced (MayBeWorked g.J.Job.state g.J.Job.gives g.J.Job.next) l at.places) (sym c.in-Err-ClosedEmpty.ensures.end.0.takes_are) at.invariant.placed

pub returns-in-Err-ClosedEmpty-clause-end : goal.returns-in-Err-ClosedEmpty-clause-end
returns-in-Err-ClosedEmpty-clause-end g c = c.in-Err-ClosedEmpty.ensures.end.1 c.in-Err-ClosedEmpty.field-0-is
