use Rattle.std.proofs.Common.{◌≤◌, take}
use Rattle.std.specs.List.{flat_map}
use Rattle.text_output.specs.Sent.{Sends}
use Rattle.index_print.specs.Text.{skipped_line}
use Rattle.index_print.proofs.print.put_all_skipped.Given as goal

abbrev pub invariant-loop-at : goal.invariant-loop-at
invariant-loop-at g l = record {
  sent : Sends (g.O.Sink.held l.initial.out) l.initial.held.items (flat_map skipped_line (take l.at l.piece.skipped)) (g.O.Sink.held l.out) l.held.items;
  later : g.O.Sink.faults l.initial.out ≤ g.O.Sink.faults l.out;
}
