use Rattle.std.proofs.Common.{◌≡◌, ℕ, ◌+◌, ◌-◌, ◌*◌, ◌≤◌, List, length, Option}
use Rattle.std.specs.Io.KnownBytes.{Consumes}
use Rattle.exact_text.specs.declared.fault.TextFault.{TextFault}
use Rattle.exact_text.specs.Exact.{HasReason, lines_room}
use Rattle.exact_text.specs.Intake.{rest_of, room_of}
use Rattle.script_text.specs.Drafts.{IsDraft, held_in, forked_in}
use Rattle.script_text.specs.Layouts.{head_lines}
use Rattle.script_text.specs.Operations.{none_held, none_forked}
use Rattle.script_text.specs.Text.{lines_text}
use Rattle.script_text.specs.Texts.{IsRest}
use Rattle.script_text.proofs.read.lines.Given as goal

abbrev pub invariant-loop-fault : goal.invariant-loop-fault
invariant-loop-fault g l = record {
  draft : IsDraft l.draft;
  layout : l.draft.layout ≡ l.initial.draft.layout;
  counted : l.intake.lines ≡ head_lines l.draft.layout.version + length l.draft.lines.items;
  few : l.intake.lines ≤ 100000;
  room : 65536 * 100001 ≤ room_of l.intake + 65536 * l.intake.lines;
  consumed : Consumes (rest_of l.initial.intake (g.I.Source.left l.initial.input)) (rest_of l.intake (g.I.Source.left l.input)) (lines_text l.draft.lines.items);
  unfailed : g.I.Source.faults l.input ≡ g.I.Source.faults l.initial.input;
  reasons :
      (left' : Option (List ℕ)) (now : ℕ) (f : TextFault)
      → HasReason (IsRest l.draft.layout (held_in l.draft) (forked_in l.draft)) (lines_room (100000 - l.intake.lines)) l.intake.lines (rest_of l.intake (g.I.Source.left l.input)) left' (g.I.Source.faults l.input) now f
      → HasReason (IsRest l.initial.draft.layout none_held none_forked) (lines_room (100000 - l.initial.intake.lines)) l.initial.intake.lines (rest_of l.initial.intake (g.I.Source.left l.initial.input)) left' (g.I.Source.faults l.initial.input) now f;
}

abbrev pub decreases-loop-fault : goal.decreases-loop-fault
decreases-loop-fault g l = 100000 - l.intake.lines
