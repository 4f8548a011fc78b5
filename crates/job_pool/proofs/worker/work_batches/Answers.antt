use Rattle.std.proofs.Common.{◌≡◌, [], ◌∷◌, ◌++◌, length, refl, inl, inr, arith, ap, sym, subst}
use Rattle.std.specs.List.{AllByRecursion}
use Rattle.job_pool.specs.declared.item.Item.{Item}
use Rattle.job_pool.specs.Slots.{MayBeWorked}
use Rattle.job_pool.specs.Stopping.{IsUnstopped, alerts_by}
use Rattle.job_pool.proofs.Lists.{each_append}
use Rattle.job_pool.proofs.Stopping.{not_both}
use Rattle.job_pool.proofs.Turning.{begun, goes_on, took_one, has_worked}
use Rattle.job_pool.proofs.Moving.{first_between}
use Rattle.job_pool.proofs.worker.work_batches.Goals as goal

pub loop-turn-init : goal.loop-turn-init
loop-turn-init g c =
    let ready = c.requires in
    let empty = ap length ready.empty in
    let ok = c.args.worker.1.ok.0 in
    record {
      done = begun (MayBeWorked g.J.Job.state g.J.Job.gives g.J.Job.next) c.args.p.now c.args.worker.0.number c.args.worker.0 c.args.worker.1.items ready.first ready.empty;
      few = omega arith;
      wide = ready.wide;
      none = subst (AllByRecursion IsUnstopped) (sym ready.empty) tt;
    }

pub is_stopped-requires-clause-between : goal.is_stopped-requires-clause-between
is_stopped-requires-clause-between g c κs within =
    let n = c.args.worker.0.number in
    (n, c.loop-turn.invariant.done.between n (first_between c.args.p.now n c.args.worker.0 c.requires.first))

pub returns-then-is_stopped : goal.returns-then-is_stopped
returns-then-is_stopped g c =
    let goes = MayBeWorked g.J.Job.state g.J.Job.gives g.J.Job.next in
    let p = c.args.p.now in
    let a = c.args.worker.0 in
    let at = c.loop-turn in
    let first = c.requires.first in
    let d1 = goes_on goes p a at.me c.is_stopped.new.me at.list.items at.invariant.done c.is_stopped.ensures.moved in
    record { worked = has_worked goes p a.number a c.is_stopped.new.me at.list.items first d1; stop = inl at.invariant.none }

pub take_next-requires-clause-named : goal.take_next-requires-clause-named
take_next-requires-clause-named g c κs within = c.requires.named

pub take_next-requires-clause-between : goal.take_next-requires-clause-between
take_next-requires-clause-between g c κs within =
    let n = c.args.worker.0.number in
    (n, c.is_stopped.ensures.moved.between n (c.loop-turn.invariant.done.between n (first_between c.args.p.now n c.args.worker.0 c.requires.first)))

pub returns-in-Err : goal.returns-in-Err
returns-in-Err g c =
    let goes = MayBeWorked g.J.Job.state g.J.Job.gives g.J.Job.next in
    let p = c.args.p.now in
    let a = c.args.worker.0 in
    let at = c.loop-turn in
    let first = c.requires.first in
    let d1 = goes_on goes p a at.me c.is_stopped.new.me at.list.items at.invariant.done c.is_stopped.ensures.moved in
    record {
      worked = has_worked goes p a.number a c.take_next.new.me at.list.items first (goes_on goes p a c.is_stopped.new.me c.take_next.new.me at.list.items d1 c.in-Err.ensures.end.0);
      stop = inl at.invariant.none;
    }

pub push_reserved-requires : goal.push_reserved-requires
push_reserved-requires g c =
    let was = c.loop-turn.invariant in
    let few = was.few in
    let wide = was.wide in
    let low = c.loop-turn-test.true in
    omega arith

pub stop_others-requires-clause-between : goal.stop_others-requires-clause-between
stop_others-requires-clause-between g c κs within =
    let n = c.args.worker.0.number in
    (n, c.in-Ok.ensures.took.between n (c.is_stopped.ensures.moved.between n (c.loop-turn.invariant.done.between n (first_between c.args.p.now n c.args.worker.0 c.requires.first))))

pub returns-then-stop : goal.returns-then-stop
returns-then-stop g c =
    let goes = MayBeWorked g.J.Job.state g.J.Job.gives g.J.Job.next in
    let p = c.args.p.now in
    let a = c.args.worker.0 in
    let at = c.loop-turn in
    let first = c.requires.first in
    let d1 = goes_on goes p a at.me c.is_stopped.new.me at.list.items at.invariant.done c.is_stopped.ensures.moved in
    let i = c.in-Ok.item in
    let j : Item _ = record { place = i.place; batch = c.work_on-stop.new.batch } in
    let d2 = took_one goes p a c.is_stopped.new.me c.take_next.new.me at.list.items c.push_reserved.new.self.items i j d1 c.in-Ok.ensures.took refl (inr c.work_on-stop.ensures.worked) c.push_reserved.ensures.items in
    let number = (c.in-Ok.ensures.took.between a.number (c.is_stopped.ensures.moved.between a.number (at.invariant.done.between a.number (first_between p a.number a first)))).idle.number in
    let threads = p.layout.threads in
    record {
      worked = has_worked goes p a.number a c.stop_others.new.me c.push_reserved.new.self.items first (goes_on goes p a c.take_next.new.me c.stop_others.new.me c.push_reserved.new.self.items d2 c.stop_others.ensures.moved);
      stop = inr (
        at.list.items,
        j,
        c.take_next.new.me.mine,
        at.invariant.none,
        c.push_reserved.ensures.items,
        subst (λ k. c.stop_others.new.me.mine ≡ c.take_next.new.me.mine ++ alerts_by k threads) number c.stop_others.ensures.alerts.mine,
      );
    }

pub loop-turn-preserved : goal.loop-turn-preserved
loop-turn-preserved g c =
    let goes = MayBeWorked g.J.Job.state g.J.Job.gives g.J.Job.next in
    let p = c.args.p.now in
    let a = c.args.worker.0 in
    let at = c.loop-turn in
    let first = c.requires.first in
    let d1 = goes_on goes p a at.me c.is_stopped.new.me at.list.items at.invariant.done c.is_stopped.ensures.moved in
    let i = c.in-Ok.item in
    let j : Item _ = record { place = i.place; batch = c.work_on-stop.new.batch } in
    let d2 = took_one goes p a c.is_stopped.new.me c.take_next.new.me at.list.items c.push_reserved.new.self.items i j d1 c.in-Ok.ensures.took refl (inr c.work_on-stop.ensures.worked) c.push_reserved.ensures.items in
    let push = c.push_reserved.ensures in
    record {
      done = d2;
      few = (let few = at.invariant.few in let len = push.len in omega arith);
      wide = (let wide = at.invariant.wide in let cap = push.capacity in omega arith);
      none = subst (AllByRecursion IsUnstopped) (sym push.items) (each_append IsUnstopped at.list.items (j ∷ []) at.invariant.none ((λ stop. not_both c.work_on-stop.result c.if-stop.false (c.work_on-stop.ensures.stops.1 stop)), tt));
    }

pub returns : goal.returns
returns g c =
    let goes = MayBeWorked g.J.Job.state g.J.Job.gives g.J.Job.next in
    let a = c.args.worker.0 in
    record {
      worked = has_worked goes c.args.p.now a.number a c.loop-turn.me c.loop-turn.list.items c.requires.first c.loop-turn.invariant.done;
      stop = inl c.loop-turn.invariant.none;
    }
