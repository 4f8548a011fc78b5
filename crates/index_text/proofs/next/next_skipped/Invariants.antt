use Rattle.std.proofs.Common.{◌-◌}
use Rattle.index_text.specs.Long.{IsWaiting}
use Rattle.index_text.proofs.next.next_skipped.Given as goal

abbrev pub invariant-loop-stop : goal.invariant-loop-stop
invariant-loop-stop g l = IsWaiting l.initial.intake l.intake (g.I.Source.left l.initial.input) (g.I.Source.left l.input) (g.I.Source.faults l.initial.input) (g.I.Source.faults l.input)

abbrev pub decreases-loop-stop : goal.decreases-loop-stop
decreases-loop-stop g l = l.intake.budget - l.intake.given
