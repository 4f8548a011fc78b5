use Rattle.std.proofs.Common.{◌≡◌, ◌+◌, ◌≤◌, replicate, vec_capacity}
use Rattle.nub_rule.specs.declared.rule.Slot.TheVariants.{Queue}
use Rattle.nub_rule.specs.Items.{no_queue}
use Rattle.nub_rule.proofs.opening.queue_slots.Given as goal

abbrev pub invariant-loop-i : goal.invariant-loop-i
invariant-loop-i g l = record { items : l.slots.items ≡ replicate l._i (Queue no_queue); room : 192 + l.further ≤ vec_capacity l.slots }
