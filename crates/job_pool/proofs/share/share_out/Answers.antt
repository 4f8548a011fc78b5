use Rattle.std.proofs.Common.{◌≡◌, ◌++◌, length, sym, ap, subst, ◌∙◌, ◌+◌, take, drop, None, Option as Opt, vec_len, arith}
use Rattle.std.specs.Prelude.{IsSome}
use Rattle.std.specs.List.{AllByRecursion}
use Rattle.std.proofs.lemmas.List.{length-replicate}
use Rattle.job_pool.specs.declared.batch.Batch.{Batch}
use Rattle.job_pool.specs.Slots.{MayBeWorked}
use Rattle.job_pool.specs.Working.{AreFirst}
use Rattle.job_pool.proofs.Lists.{whole_back}
use Rattle.job_pool.proofs.Numbering.{all_full, came_out}
use Rattle.job_pool.proofs.SharedOut.{first_thread, other_threads, all_done, came_to_all}
use Rattle.job_pool.proofs.share.share_out.Goals as goal

pub remove-me-requires : goal.remove-me-requires
remove-me-requires g c = let count = c.in-Ok.ensures.count in let ok = c.in-Ok.threads.ok.0 in omega arith

pub workers_of-requires-clause-first : goal.workers_of-requires-clause-first
workers_of-requires-clause-first g c κs within =
    subst (λ l. AreFirst c.in-Ok.p 1 l) (sym c.remove-me.ensures.items)
    (other_threads c.in-Ok.p 0 c.in-Ok.threads.items (let count = c.in-Ok.ensures.count in omega arith) c.in-Ok.ensures.threads)

pub share_all-threads-requires-clause-first : goal.share_all-threads-requires-clause-first
share_all-threads-requires-clause-first g c κs within =
    first_thread c.in-Ok.p c.in-Ok.threads.items c.remove-me.result (let count = c.in-Ok.ensures.count in omega arith) c.in-Ok.ensures.threads c.remove-me.ensures.value

pub close_package-requires-clause-count : goal.close_package-requires-clause-count
close_package-requires-clause-count g c κs within =
    let count = c.in-Ok-workers_of.ensures.count in
    let ok = c.in-Ok-workers_of.workers.ok.0 in
    let ok2 = c.remove-me.new.self.ok.0 in
    let ok3 = c.in-Ok.threads.ok.0 in
    let less = c.remove-me.ensures.len in
    let all = c.in-Ok.ensures.count in
    let e : vec_len c.in-Ok-workers_of.workers + 1 ≡ c.args.count + 1 = omega arith in
    c.share_all-threads.ensures.count ∙ (e ∙ sym c.in-Ok.ensures.«package».1)

pub close_package-requires-clause-version : goal.close_package-requires-clause-version
close_package-requires-clause-version g c κs within = c.in-Ok.ensures.«package».4

pub close_package-requires-clause-threads : goal.close_package-requires-clause-threads
close_package-requires-clause-threads g c κs within = all_done c.in-Ok.p c.share_all-threads.result.items c.share_all-threads.ensures.between

pub batches_out-requires-clause-full : goal.batches_out-requires-clause-full
batches_out-requires-clause-full g c =
    let goes = MayBeWorked g.J.Job.state g.J.Job.gives g.J.Job.next in
    let batches = c.args.batches.items in
    let places = c.share_all-threads.new.places in
    let rooms = c.in-Ok-rooms_for.rooms in
    let len = c.len-many.ensures in
    let ok = c.args.batches.ok.0 in
    let none = ap length c.in-Ok-rooms_for.ensures.places in
    let nothing : Opt (Batch g.row.J.Denot) = None in
    let many = length-replicate c.len-many.result nothing in
    let wide = c.share_all-threads.ensures.wide in
    let ok2 = rooms.places.ok.0 in
    let whole : take rooms.places.len (places ++ drop (length places) rooms.places.items) ≡ places = whole_back rooms.places.len places rooms.places.items (omega arith) (omega arith) in
    let closed = c.in-Ok-close_package.ensures.values in
    let came = came_to_all goes c.in-Ok.p (vec_len c.in-Ok-workers_of.workers + 1) batches c.share_all-threads.result.items places c.in-Ok-close_package.closed.values c.share_all-threads.ensures closed.1 (closed.0 ∙ c.in-Ok.ensures.«package».2) in
    subst (AllByRecursion IsSome) (sym whole) (all_full goes batches places came)

pub batches_out-requires-clause-room : goal.batches_out-requires-clause-room
batches_out-requires-clause-room g c =
    let out = c.in-Ok-rooms_for.ensures.out in
    let wide = out.1 in
    let nothing : Opt (Batch g.row.J.Denot) = None in
    let long = ap length c.in-Ok-rooms_for.ensures.places ∙ length-replicate c.len-many.result nothing in
    let ok = c.in-Ok-rooms_for.rooms.places.ok.0 in
    (out.0, omega arith)

pub returns-clause-out : goal.returns-clause-out
returns-clause-out g c =
    let goes = MayBeWorked g.J.Job.state g.J.Job.gives g.J.Job.next in
    let batches = c.args.batches.items in
    let places = c.share_all-threads.new.places in
    let rooms = c.in-Ok-rooms_for.rooms in
    let len = c.len-many.ensures in
    let ok = c.args.batches.ok.0 in
    let none = ap length c.in-Ok-rooms_for.ensures.places in
    let nothing : Opt (Batch g.row.J.Denot) = None in
    let many = length-replicate c.len-many.result nothing in
    let wide = c.share_all-threads.ensures.wide in
    let ok2 = rooms.places.ok.0 in
    let whole : take rooms.places.len (places ++ drop (length places) rooms.places.items) ≡ places = whole_back rooms.places.len places rooms.places.items (omega arith) (omega arith) in
    let closed = c.in-Ok-close_package.ensures.values in
    let came = came_to_all goes c.in-Ok.p (vec_len c.in-Ok-workers_of.workers + 1) batches c.share_all-threads.result.items places c.in-Ok-close_package.closed.values c.share_all-threads.ensures closed.1 (closed.0 ∙ c.in-Ok.ensures.«package».2) in
    came_out goes batches places c.batches_out.result.items came (sym whole ∙ c.batches_out.ensures)
