use Rattle.std.proofs.Common.{◌-◌}
use Rattle.index_text.specs.Long.{IsWaiting}
use Rattle.index_text.proofs.next.next_heading.Given as goal

abbrev pub invariant-loop-prefix : goal.invariant-loop-prefix
invariant-loop-prefix g l = IsWaiting l.initial.intake l.intake (g.I.Source.left l.initial.input) (g.I.Source.left l.input) (g.I.Source.faults l.initial.input) (g.I.Source.faults l.input)

abbrev pub decreases-loop-prefix : goal.decreases-loop-prefix
decreases-loop-prefix g l = l.intake.budget - l.intake.given
