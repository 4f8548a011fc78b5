use Rattle.std.proofs.Common.{◌-◌}
use Rattle.index_text.specs.Long.{IsWaiting}
use Rattle.index_text.proofs.next.next_hit.Given as goal

abbrev pub invariant-loop-figures : goal.invariant-loop-figures
invariant-loop-figures g l = IsWaiting l.initial.intake l.intake (g.I.Source.left l.initial.input) (g.I.Source.left l.input) (g.I.Source.faults l.initial.input) (g.I.Source.faults l.input)

abbrev pub decreases-loop-figures : goal.decreases-loop-figures
decreases-loop-figures g l = l.intake.budget - l.intake.given
