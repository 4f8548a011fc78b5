use Rattle.std.proofs.Common.{◌≡◌, None}
use Rattle.exact_text.specs.Intake.{room_of}
use Rattle.index_text.specs.Texts.{ArePaths}
use Rattle.index_text.proofs.Taken.{Follows, TakenPaths}
use Rattle.index_text.proofs.take.take_paths.Given as goal

abbrev pub invariant-loop-fault : goal.invariant-loop-fault
invariant-loop-fault g l = record {
  taken : Follows g.T.Taker.keeps l.initial.taker l.taker (λ t. ArePaths None t.skipped) (λ t u. TakenPaths l.initial.intake (g.I.Source.left l.initial.input) t u l.intake (g.I.Source.left l.input));
  unfailed : g.I.Source.faults l.input ≡ g.I.Source.faults l.initial.input;
}

abbrev pub decreases-loop-fault : goal.decreases-loop-fault
decreases-loop-fault g l = room_of l.intake
