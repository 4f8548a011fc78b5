use Rattle.std.proofs.Common.{List, ◌≡◌, ◌<◌, ◌∷◌, [], ◌++◌, map, length, get_or, refl, ap, sym, subst, ◌∙◌, append_assoc, append-nil, length-append, arith, below_none}
use Rattle.std.specs.Vec.Iter.{into_iter_items}
use Rattle.thread_crew.proofs.Zips.{all_yielded}
use Rattle.indexer.specs.declared.job.Job.{Job}
use Rattle.indexer.specs.Roles.{tree_of}
use Rattle.indexer.specs.Turns.{Worker}
use Rattle.indexer.proofs.Placing.{placed, map_snoc}
use Rattle.indexer.proofs.run.trees.put_back.Goals as goal

pub loop-job-preserved : goal.loop-job-preserved
loop-job-preserved g c =
    let at = c.loop-job in
    let was = at.invariant in
    let x = c.in-Some.job in
    let steps = c.in-Some.ensures.steps.0 in
    let gone = c.in-Some.ensures.steps.1 in
    let short = ap length steps in
    let push = c.push_reserved-in-loop-job.ensures in
    let put = c.put_tree.ensures in
    let prefix = c.push_reserved.new.self.items in
    record {
      whole = append_assoc at.yielded (x ∷ []) _ ∙ rw (← steps) was.whole;
      left = (let left = was.left in omega arith);
      room = (let room = was.room in let cap = push.capacity in let len = push.len in let left = was.left in omega arith);
      count = (let count = was.count in let more = length-append at.yielded (x ∷ []) in omega arith);
      made = push.items ∙ (ap (λ l. l ++ x.me ∷ []) was.made ∙ (append_assoc prefix (map (λ j. j.me) at.yielded) (x.me ∷ []) ∙ ap (λ l. prefix ++ l) (sym (map_snoc (λ j. j.me) at.yielded x))));
      back = placed (λ q. tree_of q.role) c.args.with_tree at.yielded x at.trees c.put_tree.new.trees
          (λ i d ne. put.others i d (λ e. ne (e ∙ was.count)))
          (λ d h. subst (λ j. j < c.args.with_tree → get_or c.put_tree.new.trees j d ≡ tree_of x.role) was.count (λ low. put.tree d low ∙ c.tree_in.ensures) h)
          was.back;
      above = λ i d h. put.above i d h ∙ was.above i d h;
    }

pub push_reserved-requires : goal.push_reserved-requires
push_reserved-requires g c = let room = c.requires.room in omega arith

pub loop-job-init : goal.loop-job-init
loop-job-init g c =
    let push = c.push_reserved.ensures in
    let gives = c.into_iter-job-iterator.ensures.into_iter_gives in
    let len = gives.1 in
    record {
      whole = refl;
      left = (let all = ap length gives.0 in let ok = c.args.jobs.ok in let same = ok.0 in omega arith);
      room = (let long = push.len in let cap = push.capacity in let room = c.requires.room in omega arith);
      count = refl;
      made = sym (append-nil c.push_reserved.new.self.items);
      back = λ k d e h low. below_none (λ j. get_or c.args.trees.now j d ≡ tree_of e.role) k low;
      above = λ i d h. refl;
    }

pub push_reserved-requires-in-loop-job : goal.push_reserved-requires-in-loop-job
push_reserved-requires-in-loop-job g c =
    let was = c.loop-job.invariant in
    let room = was.room in
    let left = was.left in
    let short = ap length c.in-Some.ensures.steps.0 in
    omega arith

pub returns-clause-trees : goal.returns-clause-trees
returns-clause-trees g c k d e h low =
    let at = c.loop-job in
    let all = all_yielded at.yielded _ _ at.invariant.whole (sym at.invariant.left ∙ c.in-None.ensures.steps.0) ∙ c.into_iter-job-iterator.ensures.into_iter_gives.0 in
    let ok = c.args.jobs.ok in
    let ok0 = ok.0 in
    subst (λ l. get_or at.trees k d ≡ tree_of (get_or l k e).role) all (at.invariant.back k d e h (let long = ap length all in omega arith))

pub overflow_add-k : goal.overflow_add-k
overflow_add-k g c =
    let at = c.loop-job in
    let whole = ap length at.invariant.whole in
    let split = length-append at.yielded (into_iter_items at.job-iterator) in
    let gives = ap length c.into_iter-job-iterator.ensures.into_iter_gives.0 in
    let steps = ap length c.in-Some.ensures.steps.0 in
    let count = at.invariant.count in
    let ok = c.args.jobs.ok in
    let same = ok.0 in
    omega arith

pub returns-clause-threads : goal.returns-clause-threads
returns-clause-threads g c =
    let at = c.loop-job in
    let all = all_yielded at.yielded _ _ at.invariant.whole (sym at.invariant.left ∙ c.in-None.ensures.steps.0) ∙ c.into_iter-job-iterator.ensures.into_iter_gives.0 in
    let first = c.push_reserved.ensures.items ∙ ap (λ (l : List Worker). l ++ c.args.caller ∷ []) c.requires.empty in
    at.invariant.made ∙ (ap (λ (l : List Worker). l ++ map (λ j. j.me) at.yielded) first ∙ ap (λ (l : List (Job g.row.S.Denot)). c.args.caller ∷ map (λ j. j.me) l) all)
