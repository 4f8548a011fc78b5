use Rattle.std.proofs.Common.{◌≡◌, Some}
use Rattle.nub.specs.Rest.{AtRest, IsSame}
use Rattle.bounded_buffer.specs.Waiting.{HasEntered}
use Rattle.bounded_buffer.proofs.entry.enter.Given as goal

-- the thread has the ring, after it waited some times
abbrev pub invariant-loop : goal.invariant-loop
invariant-loop g l = AtRest l.p l.me × IsSame l.fn.me l.me × ((s : g.row.B-Share.Denot) → l.fn.me.share ≡ Some s → HasEntered g.B.BufferUse.ring_in g.B.BufferUse.part g.B.BufferUse.alike g.B.Uses.fits l.p l.at.mutex.0 l.c.0 l.side s l.ring l.fn.me l.me)
