use Rattle.std.proofs.Common.{◌≤◌, take}
use Rattle.std.specs.List.{flat_map}
use Rattle.word_index.specs.Index.{row_at}
use Rattle.text_output.specs.Sent.{Sends}
use Rattle.index_print.specs.Text.{hit_after}
use Rattle.index_print.proofs.print.put_hits.Given as goal

abbrev pub invariant-loop-number : goal.invariant-loop-number
invariant-loop-number g l = record {
  sent : Sends (g.O.Sink.held l.initial.out) l.initial.held.items (flat_map hit_after (take l.number (row_at l.piece l.at).hits)) (g.O.Sink.held l.out) l.held.items;
  later : g.O.Sink.faults l.initial.out ≤ g.O.Sink.faults l.out;
}
