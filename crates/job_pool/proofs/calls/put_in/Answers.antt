use Rattle.std.proofs.Common.{◌∷◌, [], map, Err, Ok, arith, ap, subst, ◌∙◌}
use Rattle.bounded_buffer.specs.Calls.{put_did, did_last, wait_count}
use Rattle.bounded_buffer.specs.Parts.{more_full}
use Rattle.bounded_buffer.specs.Plain.{part_of}
use Rattle.job_pool.specs.Working.{HasMoved}
use Rattle.job_pool.proofs.Moving.{at_zero, called, moved_on, refused_puts, refused_takes}
use Rattle.job_pool.proofs.calls.put_in.Goals as goal

pub put-requires-clause-rest : goal.put-requires-clause-rest
put-requires-clause-rest g c κs within = let d = c.requires.between in (c.loop.invariant.0.between d.0 d.1).idle.rest

pub put-requires-clause-lacks : goal.put-requires-clause-lacks
put-requires-clause-lacks g c κs within =
    let d = c.requires.between in
    let same = c.buffer-at.ensures.0 in
    (c.loop.invariant.0.between d.0 d.1).idle.lacks c.buffer-at.result.mutex.0 (omega arith)

pub put-requires-clause-world : goal.put-requires-clause-world
put-requires-clause-world g c κs within = let d = c.requires.between in (c.loop.invariant.0.between d.0 d.1).idle.world

pub put-requires-clause-may : goal.put-requires-clause-may
put-requires-clause-may g c κs within = let d = c.requires.between in let now = c.loop.invariant.0.between d.0 d.1 in (now.share, now.idle.share, tt)

pub returns-in-Ok : goal.returns-in-Ok
returns-in-Ok g c =
    let d = c.requires.between in
    let p = c.args.p.now in
    let e = c.put.ensures in
    let i = c.loop.held in
    let now = c.loop.invariant.0.between d.0 d.1 in
    let ran = c.in-Ok.ensures.ran now.share now.idle.share in
    let here = at_zero (λ u. did_last (put_did i (Ok c.in-Ok.field-0)) (more_full ran.waited u)) ran.share now.share c.buffer-at.result.mutex.0 c.buffer-at.ensures.0 ran.here in
    let moved = called p d.0 (i ∷ []) [] c.loop.me c.put.new.me now ran.share e.rest e.same e.held ran.is_share
    (ap (λ u. map (λ q. q.1) u.puts) here) (ap (λ u. map (λ q. q.1) u.takes) here) in
    subst (λ x. HasMoved p (x ∷ []) [] c.args.me.now c.put.new.me) c.loop.invariant.1 (moved_on p [] [] (i ∷ []) [] c.args.me.now c.loop.me c.put.new.me c.loop.invariant.0 moved)

pub loop-preserved : goal.loop-preserved
loop-preserved g c =
    let d = c.requires.between in
    let p = c.args.p.now in
    let e = c.put.ensures in
    let i = c.loop.held in
    let arm = c.in-Err in
    let now = c.loop.invariant.0.between d.0 d.1 in
    let ran = arm.ensures.ran now.share now.idle.share in
    let u = part_of now.share 0 in
    let did = put_did i (Err (arm.field-0-0, arm.back)) in
    let here = at_zero (λ u. did_last did (more_full (wait_count did ran.waited) u)) ran.share now.share c.buffer-at.result.mutex.0 c.buffer-at.ensures.0 ran.here in
    let moved = called p d.0 [] [] c.loop.me c.put.new.me now ran.share e.rest e.same e.held ran.is_share
    (ap (λ u. map (λ q. q.1) u.puts) here ∙ ap (map (λ q. q.1)) (refused_puts i arm.field-0-0 arm.back ran.waited u))
    (ap (λ u. map (λ q. q.1) u.takes) here ∙ ap (map (λ q. q.1)) (refused_takes i arm.field-0-0 arm.back ran.waited u)) in
    (moved_on p [] [] [] [] c.args.me.now c.loop.me c.put.new.me c.loop.invariant.0 moved, arm.ensures.back ∙ c.loop.invariant.1)
