use Rattle.std.proofs.Common.{[], map, arith, ap}
use Rattle.bounded_buffer.specs.declared.did.Did.TheVariants.{Shut}
use Rattle.bounded_buffer.specs.Parts.{did}
use Rattle.job_pool.proofs.Moving.{at_zero, called}
use Rattle.job_pool.proofs.calls.shut_off.Goals as goal

pub shut-requires-clause-rest : goal.shut-requires-clause-rest
shut-requires-clause-rest g c κs within = c.requires.between.1.idle.rest

pub shut-requires-clause-lacks : goal.shut-requires-clause-lacks
shut-requires-clause-lacks g c κs within =
    let same = c.buffer-at.ensures.0 in
    c.requires.between.1.idle.lacks c.buffer-at.result.mutex.0 (omega arith)

pub shut-requires-clause-world : goal.shut-requires-clause-world
shut-requires-clause-world g c κs within = c.requires.between.1.idle.world

pub shut-requires-clause-share : goal.shut-requires-clause-share
shut-requires-clause-share g c κs within = let now = c.requires.between.1 in (now.share, now.idle.share)

pub returns : goal.returns
returns g c =
    let d = c.requires.between in
    let e = c.shut.ensures in
    let did_so = e.shut d.1.share d.1.idle.share in
    let here = at_zero (did Shut) did_so.share d.1.share c.buffer-at.result.mutex.0 c.buffer-at.ensures.0 did_so.here in
    called c.args.p.now d.0 [] [] c.args.me.now c.shut.new.me d.1 did_so.share e.rest e.same e.held did_so.is_share
    (ap (λ u. map (λ q. q.1) u.puts) here) (ap (λ u. map (λ q. q.1) u.takes) here)
