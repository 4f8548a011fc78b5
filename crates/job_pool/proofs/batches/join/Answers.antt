use Rattle.std.proofs.Common.{◌++◌, length, refl, sym, ap, ◌∙◌, arith, append_assoc, append-nil, length-append}
use Rattle.std.specs.Vec.Iter.{into_iter_items}
use Rattle.thread_crew.proofs.Zips.{nothing_left}
use Rattle.job_pool.specs.Slots.{slots_of}
use Rattle.job_pool.proofs.batches.join.Goals as goal

pub loop-batch-init : goal.loop-batch-init
loop-batch-init g c =
    let gives = c.into_iter-batch-iterator.ensures.into_iter_gives in
    let all = ap length gives.0 in
    let ok = c.args.batches.ok.0 in
    let len = gives.1 in
    record { left = omega arith; wide = refl; made = ap (λ l. l ++ slots_of (into_iter_items c.into_iter-batch-iterator.result)) c.requires.empty }

pub pour-requires-clause-room : goal.pour-requires-clause-room
pour-requires-clause-room g c =
    let at = c.loop-batch in
    let was = at.invariant in
    let b = c.in-Some.batch in
    let steps = c.in-Some.ensures.steps.0 in
    let made = ap length (ap (λ l. at.slots.items ++ slots_of l) (sym steps) ∙ (was.made ∙ ap slots_of c.into_iter-batch-iterator.ensures.into_iter_gives.0)) in
    let one = length-append at.slots.items (b.slots.items ++ slots_of (into_iter_items c.next.new.self)) in
    let two = length-append b.slots.items (slots_of (into_iter_items c.next.new.self)) in
    let room = c.requires.room in
    let wide = was.wide in
    let ok = at.slots.ok.0 in
    omega arith

pub loop-batch-preserved : goal.loop-batch-preserved
loop-batch-preserved g c =
    let at = c.loop-batch in
    let was = at.invariant in
    let b = c.in-Some.batch in
    let steps = c.in-Some.ensures.steps.0 in
    let gone = c.in-Some.ensures.steps.1 in
    let short = ap length steps in
    let put = c.pour.ensures in
    record {
      left = (let left = was.left in omega arith);
      wide = put.room ∙ was.wide;
      made = ap (λ l. l ++ slots_of (into_iter_items c.next.new.self)) put.slots ∙ (append_assoc at.slots.items b.slots.items (slots_of (into_iter_items c.next.new.self))
          ∙ (ap (λ l. at.slots.items ++ slots_of l) (sym steps) ∙ was.made));
    }

pub returns : goal.returns
returns g c =
    let at = c.loop-batch in
    let none = nothing_left (into_iter_items at.batch-iterator) (sym at.invariant.left ∙ c.in-None.ensures.steps.0) in
    sym (append-nil at.slots.items) ∙ (ap (λ l. at.slots.items ++ slots_of l) (sym none) ∙ (at.invariant.made ∙ ap slots_of c.into_iter-batch-iterator.ensures.into_iter_gives.0))
