use Rattle.std.proofs.Common.{◌≡◌, false, take}
use Rattle.larch_actions.specs.Sets.{mem}
use Rattle.nub_rule.proofs.slot.place_in.Given as goal

abbrev pub invariant-loop-i : goal.invariant-loop-i
invariant-loop-i l = mem l.t (take l.i l.queue.items) ≡ false
