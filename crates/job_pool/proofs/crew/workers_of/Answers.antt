use Rattle.std.proofs.Common.{◌+◌, ◌∷◌, [], length, sym, ap, subst, ◌∙◌, arith, length-append}
use Rattle.std.specs.Vec.Iter.{into_iter_items}
use Rattle.nub.proofs.Users.{first_own}
use Rattle.job_pool.specs.Crews.{AreReady}
use Rattle.job_pool.specs.Working.{AreFirst}
use Rattle.job_pool.proofs.Crewing.{ready_more}
use Rattle.job_pool.proofs.crew.workers_of.Goals as goal

pub loop-me-init : goal.loop-me-init
loop-me-init g c =
    let p = c.args.p.now in
    let gives = c.into_iter-me-iterator.ensures.into_iter_gives in
    let all = ap length gives.0 in
    let ok = c.args.threads.ok.0 in
    let len = gives.1 in
    let wide = c.in_ok-workers.ensures.capacity in
    let none = c.in_ok-workers.ensures.len in
    let bare = c.in_ok-workers.ensures.items in
    let zero = ap length bare in
    let count = c.len.ensures in
    record {
      left = omega arith;
      room = omega arith;
      first = subst (λ n. AreFirst p n (into_iter_items c.into_iter-me-iterator.result)) (sym (omega arith)) (subst (λ l. AreFirst p 1 l) (sym gives.0) c.requires.first);
      ready = subst (λ l. AreReady p c.args.room 1 l) (sym bare) tt;
      count = omega arith;
    }

pub push_reserved-requires : goal.push_reserved-requires
push_reserved-requires g c =
    let room = c.loop-me.invariant.room in
    let gone = c.in-Some.ensures.steps.1 in
    omega arith

pub loop-me-preserved : goal.loop-me-preserved
loop-me-preserved g c =
    let p = c.args.p.now in
    let at = c.loop-me in
    let was = at.invariant in
    let me = c.in-Some.me in
    let steps = c.in-Some.ensures.steps.0 in
    let gone = c.in-Some.ensures.steps.1 in
    let short = ap length steps in
    let push = c.push_reserved.ensures in
    let first : AreFirst p (1 + length at.workers.items) (me ∷ into_iter_items c.next.new.self) = (let h = was.first in rw steps at h) in
    let list = c.in_ok-list.list in
    let own = first_own p (λ w t. []) (1 + length at.workers.items) me first.0 in
    let more = ap length push.items ∙ length-append at.workers.items ((me, list) ∷ []) in
    record {
      left = (let left = was.left in omega arith);
      room = (let room = was.room in let cap = push.capacity in let len = push.len in omega arith);
      first = subst (λ n. AreFirst p n (into_iter_items c.next.new.self)) (omega arith) first.1;
      ready = subst (λ l. AreReady p c.args.room 1 l) (sym push.items)
          (ready_more p c.args.room 1 at.workers.items (me, list) first.0.number
          (record { named = c.requires.named; first = own; empty = c.in_ok-list.ensures.items; wide = c.in_ok-list.ensures.capacity }) was.ready);
      count = (let count = was.count in omega arith);
    }

pub returns-clause-ready : goal.returns-clause-ready
returns-clause-ready g c = c.loop-me.invariant.ready

pub returns-clause-count : goal.returns-clause-count
returns-clause-count g c =
    let at = c.loop-me in
    let count = at.invariant.count in
    let none = c.in-None.ensures.steps.0 in
    let gives = c.into_iter-me-iterator.ensures.into_iter_gives in
    let len = gives.1 in
    let ok = c.args.threads.ok.0 in
    omega arith
