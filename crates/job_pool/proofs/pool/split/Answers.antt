use Rattle.std.proofs.Common.{◌≡◌, ◌∷◌, [], ◌++◌, length, map, Some, refl, ap, subst, ◌∙◌, append_assoc, arith, sym}
use Rattle.std.specs.List.{AllByRecursion}
use Rattle.std.proofs.lemmas.List.{map-append}
use Rattle.std.specs.Vec.Iter.{into_iter_items}
use Rattle.thread_crew.proofs.Zips.{all_yielded}
use Rattle.job_pool.specs.declared.job.Work.TheVariants.{Value}
use Rattle.job_pool.specs.Slots.{HasValue}
use Rattle.job_pool.proofs.Lists.{each_prefix, each_last}
use Rattle.job_pool.proofs.pool.split.Goals as goal

pub loop-slot-init : goal.loop-slot-init
loop-slot-init g c =
    let gives = c.into_iter-slot-iterator.ensures.into_iter_gives in
    let back = c.requires.back in
    let values = c.requires.values in
    let none = c.args.back.ok.0 in
    let nothing = c.args.values.ok.0 in
    let empty = ap length back.empty in
    let bare = ap length values.empty in
    let wide = back.wide in
    let broad = values.wide in
    let all = ap length gives.0 in
    let same = c.args.slots.ok.0 in
    let len = gives.1 in
    record {
      whole = refl;
      left = omega arith;
      room = omega arith;
      space = omega arith;
      jobs = back.empty;
      gave = λ h. sym (ap (λ l. map (λ v. Some (Value v)) l) values.empty);
    }

pub push_reserved-requires : goal.push_reserved-requires
push_reserved-requires g c =
    let room = c.loop-slot.invariant.room in
    let gone = c.in-Some.ensures.steps.1 in
    omega arith

pub push_value-requires : goal.push_value-requires
push_value-requires g c =
    let room = c.loop-slot.invariant.space in
    let gone = c.in-Some.ensures.steps.1 in
    omega arith

pub loop-slot-preserved : goal.loop-slot-preserved
loop-slot-preserved g c =
    let at = c.loop-slot in
    let x = c.in-Some.slot in
    let steps : into_iter_items at.slot-iterator ≡ x ∷ into_iter_items c.next.new.self = c.in-Some.ensures.steps.0 in
    let gone = c.in-Some.ensures.steps.1 in
    let was = at.invariant in
    let short = ap length steps in
    let push = c.push_reserved.ensures in
    let put = c.push_value.ensures in
    record {
      whole = append_assoc at.yielded (x ∷ []) _ ∙ rw (← steps) was.whole;
      left = (let left = was.left in omega arith);
      room = (let room = was.room in let cap = push.capacity in let len = push.len in omega arith);
      space = (let room = was.space in let cap = put.capacity in let len = put.len in omega arith);
      jobs = push.items ∙ (ap (λ l. l ++ x.job ∷ []) was.jobs ∙ sym (map-append (λ s. s.job) at.yielded (x ∷ [])));
      gave = λ h.
          let v = each_last HasValue at.yielded x h in
          map-append (λ s. s.answer) at.yielded (x ∷ [])
          ∙ (ap (λ l. l ++ x.answer ∷ []) (was.gave (each_prefix HasValue at.yielded (x ∷ []) h))
          ∙ (ap (λ a. map (λ v. Some (Value v)) at.values.items ++ a ∷ []) v.1
          ∙ (sym (map-append (λ v. Some (Value v)) at.values.items (v.0 ∷ []))
          ∙ sym (ap (λ l. map (λ v. Some (Value v)) l) (put.value v.0 v.1)))));
    }

pub returns-clause-back : goal.returns-clause-back
returns-clause-back g c =
    let at = c.loop-slot in
    let all = all_yielded at.yielded _ _ at.invariant.whole (sym at.invariant.left ∙ c.in-None.ensures.steps.0) ∙ c.into_iter-slot-iterator.ensures.into_iter_gives.0 in
    at.invariant.jobs ∙ ap (λ l. map (λ x. x.job) l) all

pub returns-clause-values : goal.returns-clause-values
returns-clause-values g c =
    let at = c.loop-slot in
    let all = all_yielded at.yielded _ _ at.invariant.whole (sym at.invariant.left ∙ c.in-None.ensures.steps.0) ∙ c.into_iter-slot-iterator.ensures.into_iter_gives.0 in
    λ h. subst (λ l. AllByRecursion HasValue l → map (λ s. s.answer) l ≡ map (λ v. Some (Value v)) at.values.items) all at.invariant.gave h
