use Rattle.std.proofs.Common.{◌∷◌, [], length, reverse, refl, sym, ap, subst, ◌∙◌, arith, append_assoc, length-append}
use Rattle.std.specs.Vec.Iter.{into_iter_items}
use Rattle.thread_crew.proofs.Zips.{all_yielded}
use Rattle.job_pool.specs.declared.item.Item.{Item}
use Rattle.job_pool.specs.Batches.{numbered}
use Rattle.job_pool.specs.Working.{HasMoved}
use Rattle.job_pool.proofs.Moving.{moved_on, still}
use Rattle.job_pool.proofs.Numbering.{reverse_more}
use Rattle.job_pool.proofs.share.put_all.Goals as goal

pub loop-batch-init : goal.loop-batch-init
loop-batch-init g c =
    let gives = c.into_iter-batch-iterator.ensures.into_iter_gives in
    let all = ap length gives.0 in
    let ok = c.args.batches.ok.0 in
    let len = gives.1 in
    record { whole = refl; left = omega arith; count = refl; moved = still c.args.p.now c.args.me.now }

pub put_in-requires-clause-between : goal.put_in-requires-clause-between
put_in-requires-clause-between g c κs within = let d = c.requires.between in (d.0, c.loop-batch.invariant.moved.between d.0 d.1)

pub overflow_add-place : goal.overflow_add-place
overflow_add-place g c =
    let at = c.loop-batch in
    let whole = ap length at.invariant.whole in
    let split = length-append at.yielded (into_iter_items at.batch-iterator) in
    let gives = ap length c.into_iter-batch-iterator.ensures.into_iter_gives.0 in
    let steps = ap length c.in-Some.ensures.steps.0 in
    let count = at.invariant.count in
    let ok = c.args.batches.ok in
    let same = ok.0 in
    omega arith

pub loop-batch-preserved : goal.loop-batch-preserved
loop-batch-preserved g c =
    let at = c.loop-batch in
    let was = at.invariant in
    let x = c.in-Some.batch in
    let p = c.args.p.now in
    let steps = c.in-Some.ensures.steps.0 in
    let gone = c.in-Some.ensures.steps.1 in
    let short = ap length steps in
    let item : Item _ = record { place = at.place; batch = x } in
    record {
      whole = append_assoc at.yielded (x ∷ []) _ ∙ rw (← steps) was.whole;
      left = (let left = was.left in omega arith);
      count = (let count = was.count in let more = length-append at.yielded (x ∷ []) in omega arith);
      moved = subst (λ l. HasMoved p l [] c.args.me.now c.put_in.new.me) (reverse_more at.place at.yielded x was.count)
          (moved_on p (reverse (numbered 0 at.yielded)) [] (item ∷ []) [] c.args.me.now at.me c.put_in.new.me was.moved c.put_in.ensures);
    }

pub shut_off-requires-clause-between : goal.shut_off-requires-clause-between
shut_off-requires-clause-between g c κs within = let d = c.requires.between in (d.0, c.loop-batch.invariant.moved.between d.0 d.1)

pub returns : goal.returns
returns g c =
    let at = c.loop-batch in
    let p = c.args.p.now in
    let all = all_yielded at.yielded _ _ at.invariant.whole (sym at.invariant.left ∙ c.in-None.ensures.steps.0) ∙ c.into_iter-batch-iterator.ensures.into_iter_gives.0 in
    subst (λ l. HasMoved p (reverse (numbered 0 l)) [] c.args.me.now c.shut_off.new.me) all
    (moved_on p (reverse (numbered 0 at.yielded)) [] [] [] c.args.me.now at.me c.shut_off.new.me at.invariant.moved c.shut_off.ensures)
