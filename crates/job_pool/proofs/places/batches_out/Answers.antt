use Rattle.std.proofs.Common.{◌∷◌, [], ◌++◌, length, map, Some, refl, sym, ap, subst, ◌∙◌, arith, append_assoc}
use Rattle.std.specs.Prelude.{IsSome}
use Rattle.std.specs.List.{AllByRecursion}
use Rattle.std.specs.Vec.Iter.{into_iter_items}
use Rattle.std.proofs.lemmas.List.{map-append}
use Rattle.thread_crew.proofs.Zips.{all_yielded}
use Rattle.job_pool.proofs.places.batches_out.Goals as goal

pub loop-one-init : goal.loop-one-init
loop-one-init g c =
    let gives = c.into_iter-one-iterator.ensures.into_iter_gives in
    let all = ap length gives.0 in
    let ok = c.args.places.ok.0 in
    let len = gives.1 in
    let room = c.requires.room.1 in
    let empty = ap length c.requires.room.0 in
    let none = c.args.out.ok.0 in
    record {
      whole = refl;
      left = omega arith;
      room = omega arith;
      full = subst (AllByRecursion IsSome) (sym gives.0) c.requires.full;
      made = sym (ap (λ l. map (λ x. Some x) l) c.requires.room.0);
    }

pub push_reserved-requires : goal.push_reserved-requires
push_reserved-requires g c =
    let room = c.loop-one.invariant.room in
    let gone = c.in-Some.ensures.steps.1 in
    omega arith

pub loop-one-preserved : goal.loop-one-preserved
loop-one-preserved g c =
    let at = c.loop-one in
    let was = at.invariant in
    let steps = c.in-Some.ensures.steps.0 in
    let gone = c.in-Some.ensures.steps.1 in
    let short = ap length steps in
    let push = c.push_reserved.ensures in
    let x = c.in-Some-one.batch in
    let is = c.in-Some-one.is in
    let full : AllByRecursion IsSome (c.in-Some.one ∷ into_iter_items c.next.new.self) = (let h = was.full in rw steps at h) in
    record {
      whole = append_assoc at.yielded (c.in-Some.one ∷ []) _ ∙ rw (← steps) was.whole;
      left = (let left = was.left in omega arith);
      room = (let room = was.room in let cap = push.capacity in let len = push.len in omega arith);
      full = full.1;
      made = ap (λ l. l ++ c.in-Some.one ∷ []) was.made ∙ (ap (λ o. map (λ y. Some y) at.out.items ++ o ∷ []) is
          ∙ (sym (map-append (λ y. Some y) at.out.items (x ∷ [])) ∙ sym (ap (λ l. map (λ y. Some y) l) push.items)));
    }

pub returns : goal.returns
returns g c =
    let at = c.loop-one in
    let all = all_yielded at.yielded _ _ at.invariant.whole (sym at.invariant.left ∙ c.in-None.ensures.steps.0) ∙ c.into_iter-one-iterator.ensures.into_iter_gives.0 in
    sym all ∙ at.invariant.made
