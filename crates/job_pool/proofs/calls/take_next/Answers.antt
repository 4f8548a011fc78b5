use Rattle.std.proofs.Common.{◌∷◌, [], map, Err, Ok, arith, ap, ◌∙◌}
use Rattle.bounded_buffer.specs.Calls.{take_did, did_last, wait_count}
use Rattle.bounded_buffer.specs.Parts.{more_empty}
use Rattle.bounded_buffer.specs.Plain.{part_of}
use Rattle.job_pool.specs.Working.{part_in}
use Rattle.job_pool.proofs.Moving.{at_zero, called, ended_puts, ended_takes, ended_end}
use Rattle.job_pool.proofs.calls.take_next.Goals as goal

pub take-requires-clause-rest : goal.take-requires-clause-rest
take-requires-clause-rest g c κs within = c.requires.between.1.idle.rest

pub take-requires-clause-lacks : goal.take-requires-clause-lacks
take-requires-clause-lacks g c κs within =
    let same = c.buffer-at.ensures.0 in
    c.requires.between.1.idle.lacks c.buffer-at.result.mutex.0 (omega arith)

pub take-requires-clause-world : goal.take-requires-clause-world
take-requires-clause-world g c κs within = c.requires.between.1.idle.world

pub take-requires-clause-share : goal.take-requires-clause-share
take-requires-clause-share g c κs within = let now = c.requires.between.1 in (now.share, now.idle.share)

pub returns-in-Ok-clause-took : goal.returns-in-Ok-clause-took
returns-in-Ok-clause-took g c =
    let d = c.requires.between in
    let e = c.take.ensures in
    let i = c.in-Ok.taken.1 in
    let ran = c.in-Ok.ensures.ran d.1.share d.1.idle.share in
    let here = at_zero (λ u. did_last (take_did (Ok c.in-Ok.taken)) (more_empty ran.waited u)) ran.share d.1.share c.buffer-at.result.mutex.0 c.buffer-at.ensures.0 ran.here in
    called c.args.p.now d.0 [] (i ∷ []) c.args.me.now c.take.new.me d.1 ran.share e.rest e.same e.held ran.is_share
    (ap (λ u. map (λ q. q.1) u.puts) here) (ap (λ u. map (λ q. q.1) u.takes) here)

pub returns-in-Err-clause-end : goal.returns-in-Err-clause-end
returns-in-Err-clause-end g c =
    let d = c.requires.between in
    let e = c.take.ensures in
    let end = c.in-Err.end in
    let ran = c.in-Err.ensures.ran d.1.share d.1.idle.share in
    let u = part_of d.1.share 0 in
    let did = take_did {T = _} (Err end) in
    let here = at_zero (λ u. did_last did (more_empty (wait_count did ran.waited) u)) ran.share d.1.share c.buffer-at.result.mutex.0 c.buffer-at.ensures.0 ran.here in (
      called c.args.p.now d.0 [] [] c.args.me.now c.take.new.me d.1 ran.share e.rest e.same e.held ran.is_share
          (ap (λ u. map (λ q. q.1) u.puts) here ∙ ap (map (λ q. q.1)) (ended_puts end ran.waited u))
          (ap (λ u. map (λ q. q.1) u.takes) here ∙ ap (map (λ q. q.1)) (ended_takes end ran.waited u)),
      λ is. ap (λ o. (part_in o).seen_end) ran.is_share ∙ (ap (λ u. u.seen_end) here ∙ ended_end end ran.waited u is),
    )
