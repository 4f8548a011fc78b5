use Rattle.std.proofs.Common.{◌≡◌, ℕ, ◌<◌, ◌∷◌, [], ◌++◌, List, map, length, get_or, ap, sym, subst, ◌∙◌, append_assoc, length-append, arith, cond, nat_lt, None}
use Rattle.thread_crew.proofs.Zips.{all_yielded}
use Rattle.indexer.specs.Jobs.{kind_at, tree_at}
use Rattle.indexer.specs.Roles.{role_of}
use Rattle.indexer.specs.declared.job.Job.{Job}
use Rattle.indexer.proofs.Placing.{one_place, map_snoc}
use Rattle.indexer.proofs.run.trees.jobs_of.Goals as goal

pub loop-me-preserved : goal.loop-me-preserved
loop-me-preserved g c =
    let at = c.loop-me in
    let was = at.invariant in
    let x = c.in-Some.me in
    let steps = c.in-Some.ensures.steps.0 in
    let gone = c.in-Some.ensures.steps.1 in
    let short = ap length steps in
    let push = c.push_reserved.ensures in
    let took = c.take_tree-tree.ensures in
    let job : Job _ = record { me = x; role = c.role_with-role.result } in
    let n = length at.jobs.items in
    let many = ap length push.items in
    let more = length-append at.jobs.items (job ∷ []) in
    let ok = at.jobs.ok in
    let here : c.len-k.result ≡ n = c.len-k.ensures ∙ ok.0 in
    let Own : List (Job g.row.S.Denot) → Type 0 = λ l. (k : ℕ) (e : Job g.row.S.Denot) → k < length l → (get_or l k e).role ≡ role_of (kind_at c.args.walkers k) (tree_at c.args.with_tree c.args.trees.now k) in
    let tree = took.tree ∙ ap (λ j. tree_at c.args.with_tree at.trees j) here ∙ ap (λ t. cond (nat_lt n c.args.with_tree) t None) (was.ahead n None (omega arith)) in
    let kind = c.kind_of_place.ensures ∙ ap (λ j. kind_at c.args.walkers j) here in
    record {
      whole = append_assoc at.yielded (x ∷ []) _ ∙ rw (← steps) was.whole;
      left = (let left = was.left in omega arith);
      room = (let room = was.room in let cap = push.capacity in let long = push.len in let left = was.left in omega arith);
      made = ap (map (λ j. j.me)) push.items ∙ map_snoc (λ j. j.me) at.jobs.items job ∙ ap (λ l. l ++ x ∷ []) was.made;
      roles = subst Own (sym push.items)
          (one_place (λ j. j.role) (λ j. role_of (kind_at c.args.walkers j) (tree_at c.args.with_tree c.args.trees.now j)) at.jobs.items job
          (c.role_with-role.ensures ∙ (ap (λ q. role_of q c.take_tree-tree.result) kind ∙ ap (role_of (kind_at c.args.walkers n)) tree))
          was.roles);
      ahead = λ i d h. took.others i d (λ e. omega arith) ∙ was.ahead i d (omega arith);
      above = λ i d h. took.above i d h ∙ was.above i d h;
      stood = λ i r h. was.stood i r (took.left i r h);
    }

pub push_reserved-requires : goal.push_reserved-requires
push_reserved-requires g c =
    let at = c.loop-me in
    let was = at.invariant in
    let room = was.room in
    let left = was.left in
    let short = ap length c.in-Some.ensures.steps.0 in
    omega arith

pub returns-clause-jobs : goal.returns-clause-jobs
returns-clause-jobs g c =
    let at = c.loop-me in
    record {
      made = at.invariant.made ∙ all_yielded at.yielded _ _ at.invariant.whole (sym at.invariant.left ∙ c.in-None.ensures.steps.0) ∙ c.into_iter-me-iterator.ensures.into_iter_gives.0;
      roles = at.invariant.roles;
      others = at.invariant.above;
      left = at.invariant.stood;
    }
