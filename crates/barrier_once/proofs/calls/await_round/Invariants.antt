use Rattle.std.proofs.Common.{ℕ}
use Rattle.barrier_once.specs.declared.share.RoundShare.{RoundShare}
use Rattle.barrier_once.specs.Calls.{IsAtBar, IsWaiting}
use Rattle.barrier_once.proofs.calls.await_round.Given as goal

-- the thread has arrived, and has the bar
abbrev pub invariant-loop : goal.invariant-loop
invariant-loop g l = (s : RoundShare) × (k : ℕ) × IsAtBar l.p l.at l.fn.bar s l.fn.me × IsWaiting l.p l.at s k l.seen l.fn.me l.me
