use Rattle.std.proofs.Common.{◌≤◌, take}
use Rattle.std.specs.List.{flat_map}
use Rattle.text_output.specs.Sent.{Sends}
use Rattle.index_print.specs.Text.{row_text}
use Rattle.index_print.proofs.print.put_rows.Given as goal

abbrev pub invariant-loop-at : goal.invariant-loop-at
invariant-loop-at g l = record {
  sent : Sends (g.O.Sink.held l.initial.out) l.initial.held.items (flat_map row_text (take l.at l.piece.rows)) (g.O.Sink.held l.out) l.held.items;
  later : g.O.Sink.faults l.initial.out ≤ g.O.Sink.faults l.out;
}
