use Rattle.std.proofs.Common.{◌≡◌, List}
use Rattle.sum_uses.specs.declared.added.Added.{Added}
use Rattle.sum_uses.specs.Sums.{added}
use Rattle.nub.specs.Idle.{IsIdle}
use Rattle.test_condition.proofs.waits.ring.Given as goal

abbrev pub invariant-loop-i : goal.invariant-loop-i
invariant-loop-i g l = (s : List Added) × IsIdle l.pkg l.initial.me.number s l.me × (added 0 s ≡ l.i)
