use Rattle.std.proofs.Common.{◌∷◌, [], ◌++◌, length, map, sym, ap, ◌∙◌, arith, append_assoc}
use Rattle.std.specs.Vec.Iter.{into_iter_items}
use Rattle.thread_crew.proofs.Zips.{nothing_left}
use Rattle.job_pool.specs.Slots.{fresh}
use Rattle.job_pool.proofs.batches.batch_of.Goals as goal

pub loop-filled-init : goal.loop-filled-init
loop-filled-init g c =
    let room = c.requires.room in
    let none = c.args.slots.ok.0 in
    let empty = ap length room.empty in
    let wide = room.wide in
    record {
      same = ap (λ l. l ++ map fresh (into_iter_items c.args.source.now)) room.empty;
      less = omega arith;
      left = c.requires.source;
      few = omega arith;
      wide = wide;
    }

pub push_reserved-requires : goal.push_reserved-requires
push_reserved-requires g c =
    let was = c.loop-filled.invariant in
    let few = was.few in
    let wide = was.wide in
    let low = c.loop-filled-test.true in
    omega arith

pub loop-filled-preserved : goal.loop-filled-preserved
loop-filled-preserved g c =
    let at = c.loop-filled in
    let was = at.invariant in
    let job = c.in-Some.job in
    let push = c.push_reserved.ensures in
    let steps = c.in-Some.ensures.cases.0 in
    let gone = c.in-Some.ensures.cases.1 in
    let short = ap length steps in
    let rest = into_iter_items c.next.new.self in
    record {
      same = ap (λ l. l ++ map fresh rest) push.items ∙ (append_assoc at.slots.items (fresh job ∷ []) (map fresh rest) ∙ (ap (λ l. at.slots.items ++ map fresh l) (sym steps) ∙ was.same));
      less = (let less = was.less in omega arith);
      left = (let left = was.left in omega arith);
      few = (let few = was.few in let len = push.len in omega arith);
      wide = (let wide = was.wide in let cap = push.capacity in omega arith);
    }

pub returns-in-None-clause-same : goal.returns-in-None-clause-same
returns-in-None-clause-same g c =
    let at = c.loop-filled in
    let none = nothing_left (into_iter_items at.source) (sym at.invariant.left ∙ c.in-None.ensures.cases.0) in
    let items = c.in-None.ensures.items in
    ap (λ l. at.slots.items ++ map fresh l) (sym items) ∙ at.invariant.same

pub returns-in-None-clause-less : goal.returns-in-None-clause-less
returns-in-None-clause-less g c =
    let at = c.loop-filled in
    let less = at.invariant.less in
    let left = at.invariant.left in
    let items = ap length c.in-None.ensures.items in
    let none = c.in-None.ensures.cases.0 in
    omega arith

pub returns-in-None-clause-source : goal.returns-in-None-clause-source
returns-in-None-clause-source g c =
    let left = c.loop-filled.invariant.left in
    let items = ap length c.in-None.ensures.items in
    let none = c.in-None.ensures.cases in
    let was = none.0 in
    let is = none.1 in
    omega arith

pub returns-clause-same : goal.returns-clause-same
returns-clause-same g c = c.loop-filled.invariant.same

pub returns-clause-less : goal.returns-clause-less
returns-clause-less g c = let less = c.loop-filled.invariant.less in let over = c.loop-filled-test.false in omega arith

pub returns-clause-source : goal.returns-clause-source
returns-clause-source g c = c.loop-filled.invariant.left
