use Rattle.std.proofs.Common.{◌≡◌, ◌∷◌, [], ◌++◌, length, map, refl, sym, ap, subst, ◌∙◌, arith, append_assoc}
use Rattle.std.specs.List.{AllByRecursion}
use Rattle.std.proofs.lemmas.List.{map-append}
use Rattle.thread_crew.proofs.Zips.{all_yielded}
use Rattle.thread_crew.proofs.Zips.{each_append}
use Rattle.thread_crew.proofs.calls.calls_of.Goals as goal

pub loop-job-init : goal.loop-job-init
loop-job-init g c =
    let gives = c.into_iter-job-iterator.ensures.into_iter_gives in
    let all = ap length gives.0 in
    let ok = c.args.jobs.ok.0 in
    let len = gives.1 in
    let room = c.requires.1 in
    let empty = ap length c.requires.0 in
    let none = c.args.calls.ok.0 in
    record { whole = refl; left = omega arith; room = omega arith; made = ap (λ l. map (λ c. c.job) l) c.requires.0; by = subst (AllByRecursion (λ x. x.f.now ≡ c.args.f.now)) (sym c.requires.0) tt }

pub push_reserved-requires : goal.push_reserved-requires
push_reserved-requires g c =
    let room = c.loop-job.invariant.room in
    let gone = c.in-Some.ensures.steps.1 in
    omega arith

pub loop-job-preserved : goal.loop-job-preserved
loop-job-preserved g c =
    let at = c.loop-job in
    let was = at.invariant in
    let steps = c.in-Some.ensures.steps.0 in
    let gone = c.in-Some.ensures.steps.1 in
    let short = ap length steps in
    let push = c.push_reserved.ensures in
    record {
      whole = append_assoc at.yielded (c.in-Some.job ∷ []) _ ∙ rw (← steps) was.whole;
      left = (let left = was.left in omega arith);
      room = (let room = was.room in let cap = push.capacity in let len = push.len in omega arith);
      made = ap (λ l. map (λ x. x.job) l) push.items ∙ (map-append (λ x. x.job) at.calls.items (record { f = c.args.f; job = c.in-Some.job } ∷ []) ∙ ap (λ l. l ++ c.in-Some.job ∷ []) was.made);
      by = subst (AllByRecursion (λ x. x.f.now ≡ c.args.f.now)) (sym push.items) (each_append (λ x. x.f.now ≡ c.args.f.now) at.calls.items (record { f = c.args.f; job = c.in-Some.job } ∷ []) was.by (refl, tt));
    }

pub returns : goal.returns
returns g c =
    let at = c.loop-job in
    let all = all_yielded at.yielded _ _ at.invariant.whole (sym at.invariant.left ∙ c.in-None.ensures.steps.0) ∙ c.into_iter-job-iterator.ensures.into_iter_gives.0 in
    (at.invariant.made ∙ all, at.invariant.by)
