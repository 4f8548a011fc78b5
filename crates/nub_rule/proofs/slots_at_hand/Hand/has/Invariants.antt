use Rattle.std.proofs.Common.{◌≡◌, false, take}
use Rattle.larch_actions.specs.Sets.{mem}
use Rattle.nub_rule.proofs.slots_at_hand.Hand.has.Given as goal

abbrev pub invariant-loop-i : goal.invariant-loop-i
invariant-loop-i l = mem l.slot (take l.i l.self-inside.below.items) ≡ false
