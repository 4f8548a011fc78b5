use Rattle.std.proofs.Common.{◌∷◌, [], ◌++◌, length, map, refl, sym, ap, ◌∙◌, arith, append_assoc, append-nil}
use Rattle.std.specs.Vec.Iter.{into_iter_items}
use Rattle.std.proofs.lemmas.List.{map-append}
use Rattle.thread_crew.proofs.Zips.{nothing_left, all_yielded}
use Rattle.job_pool.specs.Crews.{filled_by}
use Rattle.job_pool.proofs.places.place_all.Goals as goal

pub loop-thread-init : goal.loop-thread-init
loop-thread-init g c =
    let gives = c.into_iter-thread-iterator.ensures.into_iter_gives in
    let all = ap length gives.0 in
    let ok = c.args.done.ok.0 in
    let len = gives.1 in
    let room = c.requires.room in
    record { whole = refl; left = omega arith; room = omega arith; made = sym (append-nil c.args.threads.items); same = refl }

pub push_reserved-requires : goal.push_reserved-requires
push_reserved-requires g c =
    let room = c.loop-thread.invariant.room in
    let gone = c.in-Some.ensures.steps.1 in
    omega arith

pub loop-thread-preserved : goal.loop-thread-preserved
loop-thread-preserved g c =
    let at = c.loop-thread in
    let was = at.invariant in
    let steps = c.in-Some.ensures.steps.0 in
    let gone = c.in-Some.ensures.steps.1 in
    let short = ap length steps in
    let push = c.push_reserved.ensures in
    let prefix = c.args.threads.items in
    record {
      whole = append_assoc at.yielded ((c.in-Some.thread, c.in-Some.list) ∷ []) _ ∙ rw (← steps) was.whole;
      left = (let left = was.left in omega arith);
      room = (let room = was.room in let cap = push.capacity in let len = push.len in omega arith);
      made = push.items ∙ (ap (λ l. l ++ c.in-Some.thread ∷ []) was.made ∙ (append_assoc prefix (map (λ r. r.0) at.yielded) (c.in-Some.thread ∷ [])
          ∙ ap (λ l. prefix ++ l) (sym (map-append (λ r. r.0) at.yielded ((c.in-Some.thread, c.in-Some.list) ∷ [])))));
      same = ap (filled_by (into_iter_items c.next.new.self)) c.place_list.ensures ∙ (sym (ap (λ l. filled_by l at.places) steps) ∙ was.same);
    }

pub returns-clause-threads : goal.returns-clause-threads
returns-clause-threads g c =
    let at = c.loop-thread in
    let all = all_yielded at.yielded _ _ at.invariant.whole (sym at.invariant.left ∙ c.in-None.ensures.steps.0) ∙ c.into_iter-thread-iterator.ensures.into_iter_gives.0 in
    at.invariant.made ∙ ap (λ l. c.args.threads.items ++ map (λ x. x.0) l) all

pub returns-clause-places : goal.returns-clause-places
returns-clause-places g c =
    let at = c.loop-thread in
    let none = nothing_left (into_iter_items at.thread-iterator) (sym at.invariant.left ∙ c.in-None.ensures.steps.0) in
    sym (ap (λ l. filled_by l at.places) none) ∙ (at.invariant.same ∙ ap (λ l. filled_by l c.args.places.now) c.into_iter-thread-iterator.ensures.into_iter_gives.0)
