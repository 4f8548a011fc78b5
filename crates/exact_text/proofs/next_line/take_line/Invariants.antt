use Rattle.std.proofs.Common.{◌≡◌, ◌⊎◌, ◌-◌, ◌≤◌, Err}
use Rattle.std.specs.Io.KnownBytes.{Keeps}
use Rattle.exact_text.specs.Intake.{rest_of, room_of}
use Rattle.exact_text.specs.declared.stop.Stop.TheVariants.{More}
use Rattle.exact_text.proofs.next_line.take_line.Given as goal

abbrev pub invariant-loop-line : goal.invariant-loop-line
invariant-loop-line g l = record {
  lines : l.intake.lines ≡ l.initial.intake.lines;
  budget : l.intake.budget ≡ l.initial.intake.budget;
  room : room_of l.intake ≡ room_of l.initial.intake;
  rest : Keeps (rest_of l.initial.intake (g.I.Source.left l.initial.input)) (rest_of l.intake (g.I.Source.left l.input));
  untouched : ((l.input ≡ l.initial.input) × (l.intake.window ≡ l.initial.intake.window)) ⊎ (g.L.NextLine.reads l.next l.initial.intake.window ≡ Err More);
  later : g.I.Source.faults l.initial.input ≤ g.I.Source.faults l.input;
  unfailed : g.I.Source.faults l.input ≡ g.I.Source.faults l.initial.input;
}

abbrev pub decreases-loop-line : goal.decreases-loop-line
decreases-loop-line g l = l.intake.budget - l.intake.given
