use Rattle.std.proofs.Common.{◌≡◌}
use Rattle.exact_text.specs.Intake.{room_of}
use Rattle.index_text.specs.Offered.{Offered}
use Rattle.index_text.proofs.Taken.{TakenRows}
use Rattle.index_text.proofs.take.take_rows.Given as goal

abbrev pub invariant-loop-fault : goal.invariant-loop-fault
invariant-loop-fault g l = record {
  offered : Offered;
  kept : g.T.Taker.keeps l.fn.taker offered l.taker;
  taken : TakenRows l.initial.intake (g.I.Source.left l.initial.input) offered l.intake (g.I.Source.left l.input);
  unfailed : g.I.Source.faults l.input ≡ g.I.Source.faults l.initial.input;
}

abbrev pub decreases-loop-fault : goal.decreases-loop-fault
decreases-loop-fault g l = room_of l.intake
