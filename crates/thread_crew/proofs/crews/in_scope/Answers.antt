use Rattle.std.proofs.Common.{◌≡◌, ◌∷◌, [], arith, length, refl, ap, sym, subst, ◌∙◌, append_assoc}
use Rattle.std.specs.Vec.Iter.{into_iter_items}
use Rattle.std.specs.List.{AllZip, AllByRecursion, sum_by}
use Rattle.thread_crew.specs.Crews.{IsChildOf, IsHeldCount, held_in}
use Rattle.thread_crew.proofs.Counts.{all_taken, count_first, fits, has_place, held_once, held_still, one_left, recorded_of, recorded_still, room_first, room_still, same_count}
use Rattle.thread_crew.proofs.Zips.{zip_push, all_yielded}
use Rattle.thread_crew.proofs.crews.in_scope.Goals as goal

pub loop-job-preserved : goal.loop-job-preserved
loop-job-preserved g c =
    let at = c.loop-job in
    let x = c.in-Some-job.job in
    let steps : into_iter_items at.job-iterator ≡ x ∷ into_iter_items c.next.new.self = c.in-Some-job.ensures.steps.0 in
    let gone = c.in-Some-job.ensures.steps.1 in
    let was = at.invariant in
    let took = c.push_reserved.ensures.len in
    let runs : AllByRecursion g.T.Task.can_run (x ∷ into_iter_items c.next.new.self) = (let h = was.runs in rw steps at h) in
    record {
      whole = append_assoc at.yielded (x ∷ []) _ ∙ rw (← steps) was.whole;
      left = one_left x _ _ _ _ steps gone was.left;
      room = room_still _ _ _ _ took gone _ _ c.push_reserved.ensures.capacity was.room;
      count = same_count _ _ _ _ took gone _ was.count;
      recorded = recorded_still _ _ _ _ _ _ c.len-in-loop-job.ensures took was.recorded c.start_or_hold-child.ensures.counted _ c.start_or_hold-child.ensures.exact;
      few = (let few = was.few in let exact = c.start_or_hold-child.ensures.exact in let once = held_once c.start_or_hold-child.result in omega arith);
      held = held_still _ _ c.start_or_hold-child.result _ _ c.push_reserved.ensures.items was.held c.start_or_hold-child.ensures.exact;
      runs = runs.1;
      given = rw c.push_reserved.ensures.items (zip_push (IsChildOf g.T.Task.run_gives (λ f. g.T.Task.can_run f.0) (λ f r. g.T.Task.run_gives f.0 r)) at.yielded _ x _ was.given
          (let k = c.start_or_hold-child.ensures.child in rw c.of.ensures at k));
    }

pub start_or_hold-child-requires-clause-runs : goal.start_or_hold-child-requires-clause-runs
start_or_hold-child-requires-clause-runs g c κs within =
    let runs : AllByRecursion g.T.Task.can_run (c.in-Some-job.job ∷ into_iter_items c.next.new.self) = (let steps = c.in-Some-job.ensures.steps.0 in let h = c.loop-job.invariant.runs in rw steps at h) in
    runs.0

pub start_or_hold-child-requires-clause-gives : goal.start_or_hold-child-requires-clause-gives
start_or_hold-child-requires-clause-gives g c κs within = λ r given. subst (λ job. g.T.Task.run_gives job r) (sym c.of.ensures) given

pub finish-requires-clause-ready : goal.finish-requires-clause-ready
finish-requires-clause-ready g c = (c.loop-job.yielded, c.loop-job.invariant.given)

pub finish-requires-clause-running : goal.finish-requires-clause-running
finish-requires-clause-running g c =
    let taken = all_taken _ _ _ _ c.loop-job.invariant.count c.in-None.ensures.steps.0 c.into_iter-job-iterator.ensures.into_iter_gives.1 in
    let r = c.in-Some.ensures.1 in
    record { empty = r.empty; room = fits _ _ _ _ taken c.len.ensures r.room }

pub finish-requires-clause-results : goal.finish-requires-clause-results
finish-requires-clause-results g c =
    let taken = all_taken _ _ _ _ c.loop-job.invariant.count c.in-None.ensures.steps.0 c.into_iter-job-iterator.ensures.into_iter_gives.1 in
    let r = c.in-Some.ensures.2 in
    record { empty = r.empty; room = fits _ _ _ _ taken c.len.ensures r.room }

pub finish-requires-clause-between : goal.finish-requires-clause-between
finish-requires-clause-between g c =
    let at = c.loop-job in
    let many = all_taken _ _ _ _ at.invariant.count c.in-None.ensures.steps.0 c.into_iter-job-iterator.ensures.into_iter_gives.1 ∙ c.args.jobs.ok.0 in
    c.requires.1 at.held (recorded_of _ _ _ _ many at.invariant.recorded at.invariant.few)

pub finish-requires-clause-held : goal.finish-requires-clause-held
finish-requires-clause-held g c = c.loop-job.invariant.held

pub returns : goal.returns
returns g c =
    let at = c.loop-job in
    let all = all_yielded at.yielded _ _ at.invariant.whole (sym at.invariant.left ∙ c.in-None.ensures.steps.0) ∙ c.into_iter-job-iterator.ensures.into_iter_gives.0 in
    let many = all_taken _ _ _ _ at.invariant.count c.in-None.ensures.steps.0 c.into_iter-job-iterator.ensures.into_iter_gives.1 ∙ c.args.jobs.ok.0 in
    let held = c.finish.ensures.held in (
      c.finish.ensures.results c.args.jobs.items (subst (λ l. AllZip (IsChildOf g.T.Task.run_gives (λ f. g.T.Task.can_run f.0) (λ f r. g.T.Task.run_gives f.0 r)) l at.children.items) all at.invariant.given),
      (
        subst (IsHeldCount c.args.starts (length c.args.jobs.items)) (sym held) (recorded_of _ _ _ _ many at.invariant.recorded at.invariant.few),
        subst (λ h. g.M.FnOnce.post c.args.between (c.args.own, (h, tt)) c.finish.result.between) (sym held) c.finish.ensures.between,
      ),
      tt,
    )

pub returns-in_default : goal.returns-in_default
returns-in_default g c = (tt, tt, (refl, refl, refl))

pub push_reserved-requires : goal.push_reserved-requires
push_reserved-requires g c = has_place _ _ _ _ c.in-Some-job.ensures.steps.1 c.loop-job.invariant.room

pub loop-job-init : goal.loop-job-init
loop-job-init g c =
    let gives = c.into_iter-job-iterator.ensures.into_iter_gives in
    let room = c.in-Some.ensures.0 in
    let empty = c.in-Some.children.ok.0 ∙ ap length room.empty in
    record {
      whole = refl;
      left = gives.1 ∙ c.args.jobs.ok.0 ∙ sym (ap length gives.0);
      room = room_first _ _ empty _ _ _ gives.1 c.len.ensures room.room;
      count = count_first _ _ empty;
      recorded = omega arith;
      few = omega arith;
      held = sym (ap (λ l. sum_by held_in l) room.empty);
      runs = subst (λ l. AllByRecursion g.T.Task.can_run l) (sym gives.0) c.requires.0;
      given = subst (λ l. AllZip (IsChildOf g.T.Task.run_gives (λ f. g.T.Task.can_run f.0) (λ f r. g.T.Task.run_gives f.0 r)) [] l) (sym room.empty) tt;
    }

pub start_or_hold-child-requires-clause-few : goal.start_or_hold-child-requires-clause-few
start_or_hold-child-requires-clause-few g c κs within =
    let few = c.loop-job.invariant.few in
    let room = has_place _ _ _ _ c.in-Some-job.ensures.steps.1 c.loop-job.invariant.room in
    let most = c.loop-job.children.ok in
    omega arith
