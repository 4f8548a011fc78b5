use Rattle.std.proofs.Common.{◌∷◌, [], ◌++◌, length, map, refl, sym, ap, ◌∙◌, arith, append_assoc}
use Rattle.std.proofs.lemmas.List.{map-append}
use Rattle.thread_crew.proofs.Zips.{all_yielded}
use Rattle.thread_crew.proofs.calls.jobs_of.Goals as goal

pub loop-call-init : goal.loop-call-init
loop-call-init g c =
    let gives = c.into_iter-call-iterator.ensures.into_iter_gives in
    let all = ap length gives.0 in
    let ok = c.args.calls.ok.0 in
    let len = gives.1 in
    let room = c.requires.1 in
    let empty = ap length c.requires.0 in
    let none = c.args.jobs.ok.0 in
    record { whole = refl; left = omega arith; room = omega arith; made = c.requires.0 }

pub push_reserved-requires : goal.push_reserved-requires
push_reserved-requires g c =
    let room = c.loop-call.invariant.room in
    let gone = c.in-Some.ensures.steps.1 in
    omega arith

pub loop-call-preserved : goal.loop-call-preserved
loop-call-preserved g c =
    let at = c.loop-call in
    let was = at.invariant in
    let steps = c.in-Some.ensures.steps.0 in
    let gone = c.in-Some.ensures.steps.1 in
    let short = ap length steps in
    let push = c.push_reserved.ensures in
    record {
      whole = append_assoc at.yielded (c.in-Some.call ∷ []) _ ∙ rw (← steps) was.whole;
      left = (let left = was.left in omega arith);
      room = (let room = was.room in let cap = push.capacity in let len = push.len in omega arith);
      made = push.items ∙ (ap (λ l. l ++ c.in-Some.call.job ∷ []) was.made ∙ sym (map-append (λ j. j.job) at.yielded (c.in-Some.call ∷ [])));
    }

pub returns : goal.returns
returns g c =
    let at = c.loop-call in
    let all = all_yielded at.yielded _ _ at.invariant.whole (sym at.invariant.left ∙ c.in-None.ensures.steps.0) ∙ c.into_iter-call-iterator.ensures.into_iter_gives.0 in
    at.invariant.made ∙ ap (λ l. map (λ j. j.job) l) all
