use Rattle.std.proofs.Common.{◌∷◌, [], ◌++◌, length, refl, sym, ap, ◌∙◌, arith, append_assoc, append-nil}
use Rattle.thread_crew.proofs.Zips.{all_yielded}
use Rattle.job_pool.proofs.batches.pour.Goals as goal

pub loop-slot-init : goal.loop-slot-init
loop-slot-init g c =
    let gives = c.into_iter-slot-iterator.ensures.into_iter_gives in
    let all = ap length gives.0 in
    let ok = c.args.batch.slots.ok.0 in
    let len = gives.1 in
    let room = c.requires in
    record { whole = refl; left = omega arith; room = omega arith; wide = refl; made = sym (append-nil c.args.slots.now.items) }

pub push_reserved-requires : goal.push_reserved-requires
push_reserved-requires g c =
    let room = c.loop-slot.invariant.room in
    let gone = c.in-Some.ensures.steps.1 in
    omega arith

pub loop-slot-preserved : goal.loop-slot-preserved
loop-slot-preserved g c =
    let at = c.loop-slot in
    let was = at.invariant in
    let x = c.in-Some.slot in
    let steps = c.in-Some.ensures.steps.0 in
    let gone = c.in-Some.ensures.steps.1 in
    let short = ap length steps in
    let push = c.push_reserved.ensures in
    record {
      whole = append_assoc at.yielded (x ∷ []) _ ∙ rw (← steps) was.whole;
      left = (let left = was.left in omega arith);
      room = (let room = was.room in let cap = push.capacity in let len = push.len in omega arith);
      wide = push.capacity ∙ was.wide;
      made = push.items ∙ (ap (λ l. l ++ x ∷ []) was.made ∙ append_assoc c.args.slots.now.items at.yielded (x ∷ []));
    }

pub returns-clause-slots : goal.returns-clause-slots
returns-clause-slots g c =
    let at = c.loop-slot in
    let all = all_yielded at.yielded _ _ at.invariant.whole (sym at.invariant.left ∙ c.in-None.ensures.steps.0) ∙ c.into_iter-slot-iterator.ensures.into_iter_gives.0 in
    at.invariant.made ∙ ap (λ l. c.args.slots.now.items ++ l) all

pub returns-clause-room : goal.returns-clause-room
returns-clause-room g c = c.loop-slot.invariant.wide
