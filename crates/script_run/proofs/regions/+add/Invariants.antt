use Rattle.std.proofs.Common.{◌≡◌, ◌-◌, ◌++◌, length, drop}
use Rattle.script_run.specs.Regions.{below}
use Rattle.script_run.proofs.regions.+add.Given as goal

abbrev pub decreases-add : goal.decreases-add
decreases-add l = length l.lines.now - l.at

abbrev pub invariant-loop-next : goal.invariant-loop-next
invariant-loop-next l =
    l.order.items ++ below (drop l.next l.lines) l.thread ≡ l.initial.order.items ++ below (drop l.at l.lines) l.thread
