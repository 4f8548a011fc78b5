use Rattle.std.proofs.Common.{◌-◌, ◌≡◌, ◌≤◌, [], length}
use Rattle.larch_actions.specs.Sets.{set_of}
use Rattle.nub_rule.proofs.Leaving.{dropped}
use Rattle.nub_rule.proofs.slot.after_set.Given as goal

abbrev pub invariant-loop-i : goal.invariant-loop-i
invariant-loop-i l = (l.i ≤ length l.queue.items) × (l.set ≡ set_of (dropped l.i l.queue.items)) × (l.i ≡ 0 → l.queue.items ≡ [])

abbrev pub decreases-loop-i : goal.decreases-loop-i
decreases-loop-i l = l.i - 1
