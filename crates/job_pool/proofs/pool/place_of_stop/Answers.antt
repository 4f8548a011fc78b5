use Rattle.std.proofs.Common.{arith, sym, subst}
use Rattle.std.proofs.lemmas.List.Elements.{recursion_from_All}
use Rattle.job_pool.specs.Slots.{HasNoStop, StopsAt}
use Rattle.job_pool.proofs.Lists.{at_place}
use Rattle.job_pool.proofs.pool.place_of_stop.Goals as goal

pub returns-then-has_stopped : goal.returns-then-has_stopped
returns-then-has_stopped g c =
    let at = c.loop-slot in
    let s = c.slot-item.result in
    subst (λ k. StopsAt k c.args.slots.now) (sym at.invariant.count)
    (record { slot = s; is_slot = at_place c.args.slots.now at.slot-index s (omega arith) c.slot-item.is; stops = c.has_stopped.ensures.0 c.if-has_stopped.true })

pub returns : goal.returns
returns g c = let at = c.loop-slot in recursion_from_All HasNoStop c.args.slots.now (λ k d low. at.invariant.none k d (omega arith))
