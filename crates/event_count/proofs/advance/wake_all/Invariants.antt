use Rattle.std.proofs.Common.{◌≡◌, length}
use Rattle.nub_rule.specs.Items.{Small}
use Rattle.nub_rule.specs.Places.{most_threads}
use Rattle.event_count.proofs.advance.wake_all.Given as goal

abbrev pub invariant-loop-t : goal.invariant-loop-t
invariant-loop-t g l = record { same : l.me ≡ record l.initial.me { part = record l.initial.me.part { queue = l.me.queue } }; small : Small most_threads l.me.queue }

abbrev pub decreases-loop-t : goal.decreases-loop-t
decreases-loop-t g l = length l.me.queue
