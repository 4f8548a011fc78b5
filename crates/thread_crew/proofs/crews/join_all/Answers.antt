use Rattle.std.proofs.Common.{◌≡◌, ◌∷◌, [], length, refl, ap, subst, ◌∙◌, append_assoc, sym}
use Rattle.std.specs.Vec.Iter.{into_iter_items}
use Rattle.std.specs.List.{AllZip}
use Rattle.thread_crew.specs.Crews.{IsRunning, Turns}
use Rattle.thread_crew.proofs.Counts.{has_place, one_left, room_first, room_still}
use Rattle.thread_crew.proofs.Zips.{zip_push, zip_turn, all_yielded}
use Rattle.thread_crew.proofs.crews.join_all.Goals as goal

pub loop-one-preserved : goal.loop-one-preserved
loop-one-preserved g c =
    let at = c.loop-one in
    let x = c.in-Some.one in
    let steps : into_iter_items at.one-iterator ≡ x ∷ into_iter_items c.next.new.self = c.in-Some.ensures.steps.0 in
    let gone = c.in-Some.ensures.steps.1 in
    let was = at.invariant in
    record {
      whole = append_assoc at.yielded (x ∷ []) _ ∙ rw (← steps) was.whole;
      left = one_left x _ _ _ _ steps gone was.left;
      room = room_still _ _ _ _ c.push_reserved.ensures.len gone _ _ c.push_reserved.ensures.capacity was.room;
      turned = rw c.push_reserved.ensures.items (zip_push (Turns (IsRunning g.T.Task.run_gives) g.T.Task.run_gives) at.yielded _ x _ was.turned c.result_of.ensures);
    }

pub returns : goal.returns
returns g c jobs given =
    let at = c.loop-one in
    let all = all_yielded at.yielded _ _ at.invariant.whole (sym at.invariant.left ∙ c.in-None.ensures.steps.0) ∙ c.into_iter-one-iterator.ensures.into_iter_gives.0 in
    zip_turn (IsRunning g.T.Task.run_gives) g.T.Task.run_gives jobs _ _ given (subst (λ l. AllZip (Turns (IsRunning g.T.Task.run_gives) g.T.Task.run_gives) l at.results.items) all at.invariant.turned)

pub push_reserved-requires : goal.push_reserved-requires
push_reserved-requires g c = has_place _ _ _ _ c.in-Some.ensures.steps.1 c.loop-one.invariant.room

pub loop-one-init : goal.loop-one-init
loop-one-init g c =
    let gives = c.into_iter-one-iterator.ensures.into_iter_gives in
    let empty = c.args.results.ok.0 ∙ ap length c.requires.empty in
    record {
      whole = refl;
      left = gives.1 ∙ c.args.running.ok.0 ∙ sym (ap length gives.0);
      room = room_first _ _ empty _ _ _ gives.1 refl c.requires.room;
      turned = subst (λ l. AllZip (Turns (IsRunning g.T.Task.run_gives) g.T.Task.run_gives) [] l) (sym c.requires.empty) tt;
    }
