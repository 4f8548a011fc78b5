use Rattle.std.proofs.Common.{ℕ, false}
use Rattle.std.specs.Fn.{FnReturnsAt}
use Rattle.monitor.specs.Waits.{IsRefused, waits}
use Rattle.monitor.proofs.Having.{HasBack}
use Rattle.monitor.proofs.wait.wait_until.Given as goal

-- the thread has waited so often, each time after the test refused the value in hand, and has the value
abbrev pub invariant-loop : goal.invariant-loop
invariant-loop g l = (k : ℕ) × HasBack g.U.Uses.fits l.p l.m.0 (waits l.initial.me.number l.m.0 l.c.0 k) l.value l.initial.me l.me
    × IsRefused (λ x. FnReturnsAt g.T.Fn l.test x false) l.fn.got k l.value
