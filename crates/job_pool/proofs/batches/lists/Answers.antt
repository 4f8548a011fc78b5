use Rattle.std.proofs.Common.{◌∷◌, [], sym, subst, arith, vec_capacity}
use Rattle.std.specs.List.{AllByRecursion}
use Rattle.job_pool.specs.Slots.{IsRoom}
use Rattle.thread_crew.proofs.Zips.{each_append}
use Rattle.job_pool.proofs.batches.lists.Goals as goal

pub loop-made-init : goal.loop-made-init
loop-made-init g c =
    let made = c.in_ok-lists.ensures in
    record { count = made.len; wide = made.capacity; each = subst (λ l. AllByRecursion (λ x. IsRoom c.args.size x.items (vec_capacity x)) l) (sym made.items) tt }

pub push_reserved-requires : goal.push_reserved-requires
push_reserved-requires g c =
    let was = c.loop-made.invariant in
    let count = was.count in
    let wide = was.wide in
    let low = c.loop-made-test.true in
    omega arith

pub loop-made-preserved : goal.loop-made-preserved
loop-made-preserved g c =
    let was = c.loop-made.invariant in
    let push = c.push_reserved.ensures in
    let list = c.in_ok-list in
    record {
      count = (let count = was.count in let len = push.len in omega arith);
      wide = (let wide = was.wide in let cap = push.capacity in omega arith);
      each = subst (λ l. AllByRecursion (λ x. IsRoom c.args.size x.items (vec_capacity x)) l) (sym push.items)
          (each_append (λ x. IsRoom c.args.size x.items (vec_capacity x)) c.loop-made.lists.items (list.list ∷ []) was.each (record { empty = list.ensures.items; wide = list.ensures.capacity }, tt));
    }

pub returns : goal.returns
returns g c =
    let was = c.loop-made.invariant in
    (let count = was.count in let over = c.loop-made-test.false in omega arith, was.each)
