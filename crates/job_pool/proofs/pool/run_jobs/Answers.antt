use Rattle.std.proofs.Common.{◌≡◌, ◌++◌, length, map, sym, ap, subst, ◌∙◌, ◌≤◌, ◌+◌, ◌*◌, ◌/◌, Some, take, drop, arith}
use Rattle.std.specs.List.{AllByRecursion, AllZip}
use Rattle.thread_crew.proofs.Zips.{zip_length}
use Rattle.job_pool.specs.declared.job.Work.TheVariants.{Value}
use Rattle.job_pool.specs.Jobs.{AreDone, AreStopped}
use Rattle.job_pool.specs.Slots.{HasValue, MayBeCalled, slots_of}
use Rattle.job_pool.proofs.Ending.{as_many_slots, called_by_all, enough_batches, few_batches}
use Rattle.job_pool.proofs.Lists.{whole_back}
use Rattle.job_pool.proofs.Calling.{done, stopped, jobs_of_fresh}
use Rattle.job_pool.proofs.pool.run_jobs.Goals as goal

pub cut-batches-requires-clause-enough : goal.cut-batches-requires-clause-enough
cut-batches-requires-clause-enough g c κs within =
    let n = c.len-many.result in
    let size = c.batch_size-size.result in
    let lists = c.in-Ok.ensures.lists.0 in
    let jobs : length c.args.jobs.items ≡ n = (let len = c.len-many.ensures in let ok = c.args.jobs.ok.0 in omega arith) in
    subst (λ k. length c.args.jobs.items ≤ k * size) (sym lists) (subst (λ k. k ≤ (n / size + 1) * size) (sym jobs) (enough_batches n size c.batch_size-size.ensures.some))

pub share_out-requires-clause-many : goal.share_out-requires-clause-many
share_out-requires-clause-many g c κs within =
    let n = c.len-many.result in
    let size = c.batch_size-size.result in
    let few = few_batches n size c.batch_size-size.ensures.some c.batch_size-size.ensures.enough in
    let is : length c.cut-batches.result.items ≡ n / size + 1 = c.cut-batches.ensures.count ∙ c.in-Ok.ensures.lists.0 in
    (subst (λ k. 1 ≤ k) (sym is) (omega arith), subst (λ k. k ≤ 4096) (sym is) few)

pub join-slots-requires-clause-room : goal.join-slots-requires-clause-room
join-slots-requires-clause-room g c κs within =
    let many = as_many_slots g.J.Job.state g.J.Job.gives g.J.Job.next c.args.jobs.items c.cut-batches.result.items c.in-Ok-share_out.batches.items c.cut-batches.ensures.slots c.in-Ok-share_out.ensures.out in
    let wide = c.in-Ok.ensures.slots.wide in
    let len = c.len-many.ensures in
    let ok = c.args.jobs.ok.0 in
    omega arith

pub split-back-requires-clause-back : goal.split-back-requires-clause-back
split-back-requires-clause-back g c κs within =
    let joined = c.join-slots.result in
    let ok = joined.ok.0 in
    let items = ap length c.join-slots.ensures in
    let many = as_many_slots g.J.Job.state g.J.Job.gives g.J.Job.next c.args.jobs.items c.cut-batches.result.items c.in-Ok-share_out.batches.items c.cut-batches.ensures.slots c.in-Ok-share_out.ensures.out in
    let len = c.len-many.ensures in
    let jobs = c.args.jobs.ok.0 in
    let room = c.in-Ok.ensures.back in
    let wide = room.wide in
    record { empty = room.empty; wide = omega arith }

pub split-back-requires-clause-values : goal.split-back-requires-clause-values
split-back-requires-clause-values g c κs within =
    let joined = c.join-slots.result in
    let ok = joined.ok.0 in
    let items = ap length c.join-slots.ensures in
    let many = as_many_slots g.J.Job.state g.J.Job.gives g.J.Job.next c.args.jobs.items c.cut-batches.result.items c.in-Ok-share_out.batches.items c.cut-batches.ensures.slots c.in-Ok-share_out.ensures.out in
    let len = c.len-many.ensures in
    let jobs = c.args.jobs.ok.0 in
    let room = c.in-Ok.ensures.values in
    let wide = room.wide in
    record { empty = room.empty; wide = omega arith }

pub returns-in-Some : goal.returns-in-Some
returns-in-Some g c =
    let state = g.J.Job.state in
    let gives = g.J.Job.gives in
    let next = g.J.Job.next in
    let jobs = c.args.jobs.items in
    let fin = c.finish-stop.new.slots in
    let joined = c.join-slots.result in
    let called = subst (λ l. AllZip (MayBeCalled state gives next) l fin) c.as_mut_slice.ensures.value c.finish-stop.ensures.called in
    let all = called_by_all state gives next jobs c.cut-batches.result.items c.in-Ok-share_out.batches.items joined.items fin c.cut-batches.ensures.slots c.in-Ok-share_out.ensures.out c.join-slots.ensures called in
    let long = zip_length (MayBeCalled state gives next) joined.items fin called in
    let ok = joined.ok.0 in
    let whole : take joined.len (fin ++ drop (length fin) joined.items) ≡ fin = whole_back joined.len fin joined.items long ok in
    let back : c.split-back.result.0.items ≡ map (λ s. s.job) fin = c.split-back.ensures.back ∙ ap (map (λ s. s.job)) whole in
    subst (λ l. AreStopped state gives next c.in-Some.place jobs l) (sym back) (stopped state gives next c.in-Some.place jobs fin all c.in-Some.ensures.ends)

pub returns-in-None : goal.returns-in-None
returns-in-None g c =
    let state = g.J.Job.state in
    let gives = g.J.Job.gives in
    let next = g.J.Job.next in
    let jobs = c.args.jobs.items in
    let fin = c.finish-stop.new.slots in
    let joined = c.join-slots.result in
    let called = subst (λ l. AllZip (MayBeCalled state gives next) l fin) c.as_mut_slice.ensures.value c.finish-stop.ensures.called in
    let all = called_by_all state gives next jobs c.cut-batches.result.items c.in-Ok-share_out.batches.items joined.items fin c.cut-batches.ensures.slots c.in-Ok-share_out.ensures.out c.join-slots.ensures called in
    let long = zip_length (MayBeCalled state gives next) joined.items fin called in
    let ok = joined.ok.0 in
    let whole : take joined.len (fin ++ drop (length fin) joined.items) ≡ fin = whole_back joined.len fin joined.items long ok in
    let back : c.split-back.result.0.items ≡ map (λ s. s.job) fin = c.split-back.ensures.back ∙ ap (map (λ s. s.job)) whole in
    let values = c.split-back.result.1.items in
    let gave = subst (λ l. AllByRecursion HasValue l → map (λ s. s.answer) l ≡ map (λ v. Some (Value v)) values) whole c.split-back.ensures.values in
    subst (λ l. AreDone state gives next jobs values l) (sym back) (done state gives next jobs fin values all c.in-None.ensures.ends (gave c.in-None.ensures.ends))

pub returns-in-Err : goal.returns-in-Err
returns-in-Err g c =
    let slots = c.join.ensures ∙ (ap (λ v. slots_of v.items) c.in-Err.ensures.back ∙ c.cut-batches.ensures.slots) in
    c.split-back-in-Err.ensures.back ∙ (ap (map (λ s. s.job)) slots ∙ jobs_of_fresh c.args.jobs.items)
