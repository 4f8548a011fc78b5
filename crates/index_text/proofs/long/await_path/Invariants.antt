use Rattle.std.proofs.Common.{◌-◌, ◌≤◌, length, take, IfSome}
use Rattle.std.specs.Option.{option_copied}
use Rattle.index_text.specs.Next.{IsLastPath}
use Rattle.index_text.specs.Long.{IsWaiting}
use Rattle.index_text.proofs.Begun.{IsRead}
use Rattle.index_text.proofs.long.await_path.Given as goal

abbrev pub invariant-loop-end : goal.invariant-loop-end
invariant-loop-end g l = record {
  waits : IsWaiting l.initial.intake l.intake (g.I.Source.left l.initial.input) (g.I.Source.left l.input) (g.I.Source.faults l.initial.input) (g.I.Source.faults l.input);
  within : l.at ≤ length l.intake.window;
  last : IsLastPath (option_copied l.above);
  read : IfSome (g.I.Source.left l.initial.input) (λ _. IsRead (option_copied l.last) (take l.start l.initial.intake.window) l.at (option_copied l.above) l.intake.window);
}

abbrev pub decreases-loop-end : goal.decreases-loop-end
decreases-loop-end g l = l.intake.budget - l.intake.given
