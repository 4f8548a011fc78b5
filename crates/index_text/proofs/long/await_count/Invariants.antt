use Rattle.std.proofs.Common.{◌-◌, ◌<◌, ◌≤◌, length, take, IfSome}
use Rattle.index_text.specs.Long.{IsWaiting, IsCounted}
use Rattle.index_text.proofs.long.await_count.Given as goal

abbrev pub invariant-loop-bytes : goal.invariant-loop-bytes
invariant-loop-bytes g l = record {
  waits : IsWaiting l.initial.intake l.intake (g.I.Source.left l.initial.input) (g.I.Source.left l.input) (g.I.Source.faults l.initial.input) (g.I.Source.faults l.input);
  begun : l.start < l.at;
  within : l.at ≤ length l.intake.window;
  counted : IfSome (g.I.Source.left l.initial.input) (λ _. IsCounted l.start l.initial.intake.window (take l.at l.intake.window));
}

abbrev pub decreases-loop-bytes : goal.decreases-loop-bytes
decreases-loop-bytes g l = l.intake.budget - l.intake.given
