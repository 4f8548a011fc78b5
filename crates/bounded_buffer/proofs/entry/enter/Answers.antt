use Rattle.nub.proofs.Users.{same_on}
use Rattle.bounded_buffer.proofs.entry.enter.Goals as goal

pub loop-init : goal.loop-init
loop-init g c = let got = c.acquire_ring-ring.ensures in (got.rest, got.same, got.entered c.args.c.0 c.args.side)

pub wait_once-requires-clause-entered : goal.wait_once-requires-clause-entered
wait_once-requires-clause-entered g c κs within = let s = c.requires.share in (c.args.me.now, s.0, c.loop.invariant.2 s.0 s.1)

pub loop-preserved : goal.loop-preserved
loop-preserved g c =
    let went = c.in_ok-ring.ensures in
    (went.rest, same_on c.args.me.now c.loop.me c.wait_once.new.me c.loop.invariant.1 went.same, λ s own. went.waited c.args.me.now s c.requires.lacks (c.loop.invariant.2 s own))

pub returns-in_err-ring-clause-ended : goal.returns-in_err-ring-clause-ended
returns-in_err-ring-clause-ended g c = λ s own. rw c.from_residual.ensures (c.in_err-ring.ensures.waited c.args.me.now s c.requires.lacks (c.loop.invariant.2 s own))
