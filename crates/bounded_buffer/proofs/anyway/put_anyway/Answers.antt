use Rattle.std.proofs.Common.{subst, ◌∙◌, refl}
use Rattle.bounded_buffer.specs.declared.did.Did.TheVariants.{Put, SawShut}
use Rattle.bounded_buffer.specs.Using.{HasUsed, did_at}
use Rattle.bounded_buffer.proofs.Using.{used_ran}
use Rattle.bounded_buffer.proofs.anyway.put_anyway.Goals as goal

pub put-requires-clause-rest : goal.put-requires-clause-rest
put-requires-clause-rest g c κs within = let d = c.requires.used in (c.loop.invariant.0 d.0 d.1 d.2).idle.rest

pub put-requires-clause-lacks : goal.put-requires-clause-lacks
put-requires-clause-lacks g c κs within = let d = c.requires.used in (c.loop.invariant.0 d.0 d.1 d.2).idle.lacks_named c.args.at.now.mutex.0 c.requires.named.0.mutex

pub put-requires-clause-world : goal.put-requires-clause-world
put-requires-clause-world g c κs within = let d = c.requires.used in (c.loop.invariant.0 d.0 d.1 d.2).idle.world

pub put-requires-clause-may : goal.put-requires-clause-may
put-requires-clause-may g c κs within = let d = c.requires.used in let now = c.loop.invariant.0 d.0 d.1 d.2 in (now.share, now.idle.share, tt)

pub returns-in-Ok-clause-put : goal.returns-in-Ok-clause-put
returns-in-Ok-clause-put g c = λ n m us is was.
    let mid = c.loop.invariant.0 n us was in
    let order = mid.ordered c.args.at.now.mutex.0 in
    let done = used_ran mid (λ r. c.put.ensures.idle n mid.share r mid.idle) (c.in-Ok.ensures.ran mid.share mid.idle.share) (λ k u. refl) (λ k. ((c.in-Ok.ensures.rises mid.share mid.idle.share, order.0), order.1)) in
    subst (λ k. HasUsed c.args.p.now n (did_at k (Put c.in-Ok.number c.args.item) us) c.put.new.me) is (subst (λ i. HasUsed c.args.p.now n (did_at c.args.at.now.mutex.0 (Put c.in-Ok.number i) us) c.put.new.me) c.loop.invariant.1 done)

pub returns-in-Err-Closed-default-clause-refused : goal.returns-in-Err-Closed-default-clause-refused
returns-in-Err-Closed-default-clause-refused g c = (
  c.in-Err-Closed-default.ensures.back ∙ c.loop.invariant.1,
  λ n m us is was.
      let mid = c.loop.invariant.0 n us was in
      let ran = rw c.in-Err-Closed-default.field-0-0-is at (c.in-Err-Closed-default.ensures.ran mid.share mid.idle.share) in
      subst (λ k. HasUsed c.args.p.now n (did_at k SawShut us) c.put.new.me) is
      (used_ran mid (λ r. c.put.ensures.idle n mid.share r mid.idle) ran (λ k u. refl) (λ k. mid.ordered c.args.at.now.mutex.0)),
)

pub loop-preserved : goal.loop-preserved
loop-preserved g c = (
  λ n us was.
      let mid = c.loop.invariant.0 n us was in
      let ran = rw c.in-Err-Alerted-default.field-0-0-is at (c.in-Err-Alerted-default.ensures.ran mid.share mid.idle.share) in
      used_ran mid (λ r. c.put.ensures.idle n mid.share r mid.idle) ran (λ k u. refl) (λ k. mid.ordered c.args.at.now.mutex.0),
  c.in-Err-Alerted-default.ensures.back ∙ c.loop.invariant.1,
)
