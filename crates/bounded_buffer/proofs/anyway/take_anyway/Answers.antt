use Rattle.std.proofs.Common.{subst, refl}
use Rattle.bounded_buffer.specs.declared.did.Did.TheVariants.{Took, SawEnd}
use Rattle.bounded_buffer.specs.Using.{HasUsed, did_at}
use Rattle.bounded_buffer.proofs.Using.{used_ran}
use Rattle.bounded_buffer.proofs.anyway.take_anyway.Goals as goal

pub take-requires-clause-rest : goal.take-requires-clause-rest
take-requires-clause-rest g c κs within = let d = c.requires.used in (c.loop.invariant d.0 d.1 d.2).idle.rest

pub take-requires-clause-lacks : goal.take-requires-clause-lacks
take-requires-clause-lacks g c κs within = let d = c.requires.used in (c.loop.invariant d.0 d.1 d.2).idle.lacks_named c.args.at.now.mutex.0 c.requires.named.0.mutex

pub take-requires-clause-world : goal.take-requires-clause-world
take-requires-clause-world g c κs within = let d = c.requires.used in (c.loop.invariant d.0 d.1 d.2).idle.world

pub take-requires-clause-share : goal.take-requires-clause-share
take-requires-clause-share g c κs within = let d = c.requires.used in let now = c.loop.invariant d.0 d.1 d.2 in (now.share, now.idle.share)

pub returns-in-Ok-clause-took : goal.returns-in-Ok-clause-took
returns-in-Ok-clause-took g c = λ n m us is was.
    let mid = c.loop.invariant n us was in
    let order = mid.ordered c.args.at.now.mutex.0 in
    subst (λ k. HasUsed c.args.p.now n (did_at k (Took c.in-Ok.taken.0 c.in-Ok.taken.1) us) c.take.new.me) is
    (used_ran mid (λ r. c.take.ensures.idle n mid.share r mid.idle) (c.in-Ok.ensures.ran mid.share mid.idle.share) (λ k u. refl) (λ k. (order.0, (c.in-Ok.ensures.rises mid.share mid.idle.share, order.1))))

pub returns-in-Err-ClosedEmpty-clause-over : goal.returns-in-Err-ClosedEmpty-clause-over
returns-in-Err-ClosedEmpty-clause-over g c = λ n m us is was.
    let mid = c.loop.invariant n us was in
    let ran = rw c.in-Err-ClosedEmpty.field-0-is at (c.in-Err-ClosedEmpty.ensures.ran mid.share mid.idle.share) in
    subst (λ k. HasUsed c.args.p.now n (did_at k SawEnd us) c.take.new.me) is
    (used_ran mid (λ r. c.take.ensures.idle n mid.share r mid.idle) ran (λ k u. refl) (λ k. mid.ordered c.args.at.now.mutex.0))

pub loop-preserved : goal.loop-preserved
loop-preserved g c = λ n us was.
    let mid = c.loop.invariant n us was in
    let ran = rw c.in-Err-Alerted.field-0-is at (c.in-Err-Alerted.ensures.ran mid.share mid.idle.share) in
    used_ran mid (λ r. c.take.ensures.idle n mid.share r mid.idle) ran (λ k u. refl) (λ k. mid.ordered c.args.at.now.mutex.0)
