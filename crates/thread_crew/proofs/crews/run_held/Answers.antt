use Rattle.std.proofs.Common.{◌≡◌, ◌∷◌, [], List, length, refl, ap, subst, ◌∙◌, append_assoc, sym}
use Rattle.std.specs.Vec.Iter.{into_iter_items}
use Rattle.std.specs.List.{AllZip}
use Rattle.thread_crew.specs.Crews.{IsChildOf, IsRunning, Turns}
use Rattle.thread_crew.proofs.Counts.{has_place, one_left, room_first, room_still}
use Rattle.thread_crew.proofs.Zips.{zip_push, zip_turn, zip_first, all_yielded}
use Rattle.thread_crew.proofs.crews.run_held.Goals as goal

pub settle-requires : goal.settle-requires
settle-requires g c =
    let at = c.loop-child in
    let steps = c.in-Some.ensures.steps.0 in
    let first = zip_first (IsChildOf g.T.Task.run_gives (goal.F-pre g) (goal.F-post g)) at.invariant.ready.0 c.in-Some.child _ (let h = at.invariant.ready.1 in rw steps at h) in
    (first.0, first.2)

pub loop-child-preserved : goal.loop-child-preserved
loop-child-preserved g c =
    let at = c.loop-child in
    let x = c.in-Some.child in
    let steps : into_iter_items at.child-iterator ≡ x ∷ into_iter_items c.next.new.self = c.in-Some.ensures.steps.0 in
    let gone = c.in-Some.ensures.steps.1 in
    let was = at.invariant in
    record {
      whole = append_assoc at.yielded (x ∷ []) _ ∙ rw (← steps) was.whole;
      left = one_left x _ _ _ _ steps gone was.left;
      room = room_still _ _ _ _ c.push_reserved.ensures.len gone _ _ c.push_reserved.ensures.capacity was.room;
      ready = (let first = zip_first (IsChildOf g.T.Task.run_gives (goal.F-pre g) (goal.F-post g)) was.ready.0 x _ (let h = was.ready.1 in rw steps at h) in (first.1, first.3));
      turned = rw c.push_reserved.ensures.items (zip_push (Turns (IsChildOf g.T.Task.run_gives (goal.F-pre g) (goal.F-post g)) (IsRunning g.T.Task.run_gives)) at.yielded _ x _ was.turned c.settle.ensures);
    }

pub returns : goal.returns
returns g c jobs given =
    let at = c.loop-child in
    let all = all_yielded at.yielded _ _ at.invariant.whole (sym at.invariant.left ∙ c.in-None.ensures.steps.0) ∙ c.into_iter-child-iterator.ensures.into_iter_gives.0 in
    zip_turn (IsChildOf g.T.Task.run_gives (goal.F-pre g) (goal.F-post g)) (IsRunning g.T.Task.run_gives) jobs _ _ given (subst (λ l. AllZip (Turns (IsChildOf g.T.Task.run_gives (goal.F-pre g) (goal.F-post g)) (IsRunning g.T.Task.run_gives)) l at.running.items) all at.invariant.turned)

pub push_reserved-requires : goal.push_reserved-requires
push_reserved-requires g c = has_place _ _ _ _ c.in-Some.ensures.steps.1 c.loop-child.invariant.room

pub loop-child-init : goal.loop-child-init
loop-child-init g c =
    let gives = c.into_iter-child-iterator.ensures.into_iter_gives in
    let room = c.requires.room in
    let empty = c.args.running.ok.0 ∙ ap length room.empty in
    record {
      whole = refl;
      left = gives.1 ∙ c.args.children.ok.0 ∙ sym (ap length gives.0);
      room = room_first _ _ empty _ _ _ gives.1 refl room.room;
      ready = subst (λ l. (jobs : List _) × AllZip (IsChildOf g.T.Task.run_gives (goal.F-pre g) (goal.F-post g)) jobs l) (sym gives.0) c.requires.ready;
      turned = subst (λ l. AllZip (Turns (IsChildOf g.T.Task.run_gives (goal.F-pre g) (goal.F-post g)) (IsRunning g.T.Task.run_gives)) [] l) (sym room.empty) tt;
    }
