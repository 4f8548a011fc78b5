use Rattle.std.proofs.Common.{◌≡◌, ◌∷◌, [], ◌++◌, length, map, sym, ap, subst, ◌∙◌, ◌+◌, None, vec_len, arith}
use Rattle.std.proofs.lemmas.List.{length-replicate}
use Rattle.std.specs.List.{AllByRecursion}
use Rattle.thread_crew.proofs.Zips.{zip_length}
use Rattle.job_pool.specs.Crews.{IsReady}
use Rattle.job_pool.specs.Slots.{MayBeWorked}
use Rattle.job_pool.proofs.Crewing.{each_ready}
use Rattle.job_pool.proofs.Moving.{first_between}
use Rattle.job_pool.proofs.SharedOut.{was_shared, placed_first}
use Rattle.job_pool.proofs.share.share_all.Goals as goal

pub put_all-requires-clause-between : goal.put_all-requires-clause-between
put_all-requires-clause-between g c κs within = (0, first_between c.args.p.now 0 c.args.me c.requires.first)

pub run_workers-done-requires-clause-workers : goal.run_workers-done-requires-clause-workers
run_workers-done-requires-clause-workers g c κs within =
    let p = c.args.p.now in
    let many = length c.args.batches.items in
    let same : c.len-room.result ≡ many = (let ok = c.args.batches.ok.0 in let len = c.len-room.ensures in omega arith) in
    subst (λ n. AllByRecursion (IsReady p n) c.args.workers.items) (sym same) (each_ready p many 1 c.args.workers.items c.requires.workers)

pub take_rest-requires-clause-between : goal.take_rest-requires-clause-between
take_rest-requires-clause-between g c κs within = (0, c.put_all.ensures.between 0 (first_between c.args.p.now 0 c.args.me c.requires.first))

pub take_rest-requires-clause-placed : goal.take_rest-requires-clause-placed
take_rest-requires-clause-placed g c κs within =
    placed_first (MayBeWorked g.J.Job.state g.J.Job.gives g.J.Job.next) c.args.p.now (length c.args.batches.items) _ c.args.me c.put_all.new.me c.args.places.now c.requires.first c.put_all.ensures c.requires.places

pub push_reserved-requires : goal.push_reserved-requires
push_reserved-requires g c =
    let none = ap length c.requires.threads.0 in
    let room = c.requires.threads.1 in
    let ok = c.args.threads.ok.0 in
    omega arith

pub place_all-requires-clause-room : goal.place_all-requires-clause-room
place_all-requires-clause-room g c κs within =
    let none = ap length c.requires.threads.0 in
    let room = c.requires.threads.1 in
    let ok = c.args.threads.ok.0 in
    let ok2 = c.args.workers.ok.0 in
    let ok3 = c.run_workers-done.result.ok.0 in
    let many = zip_length _ c.args.workers.items c.run_workers-done.result.items c.run_workers-done.ensures in
    let len = c.push_reserved.ensures.len in
    let cap = c.push_reserved.ensures.capacity in
    omega arith

pub returns : goal.returns
returns g c =
    let goes = MayBeWorked g.J.Job.state g.J.Job.gives g.J.Job.next in
    let p = c.args.p.now in
    let done = c.run_workers-done.result.items in
    let rest = c.take_rest.ensures in
    let last = c.take_rest.new.me in
    let batches = c.args.batches.items in
    let are : c.place_all.result.items ≡ last ∷ map (λ r. r.0) done = c.place_all.ensures.threads ∙ ap (λ l. l ++ map (λ r. r.0) done) (c.push_reserved.ensures.items ∙ ap (λ l. l ++ last ∷ []) c.requires.threads.0) in
    let wide : length c.take_rest.new.places ≡ length batches = c.take_rest.auto.places ∙ (ap length c.requires.places ∙ length-replicate (length batches) None) in
    was_shared goes p (length batches) (vec_len c.args.workers + 1) batches c.args.me c.put_all.new.me last c.args.workers.items done rest.moved.0 c.place_all.result.items c.take_rest.new.places c.place_all.new.places
    c.requires.first c.put_all.ensures rest.moved.1 rest.end c.requires.workers c.run_workers-done.ensures are (let ok = c.args.workers.ok.0 in omega arith) rest.placed c.place_all.ensures.places wide
