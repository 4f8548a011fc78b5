use Rattle.std.proofs.Common.{◌≤◌, take}
use Rattle.std.specs.List.{enumerate_from, flat_map}
use Rattle.text_output.specs.Sent.{Sends}
use Rattle.command_jobs.specs.Lines.{value_line}
use Rattle.command_jobs.proofs.lines.put_lines.Given as goal

abbrev pub invariant-loop-place : goal.invariant-loop-place
invariant-loop-place g l = record {
  sent : Sends (g.O.Sink.held l.initial.out) l.initial.held.items (flat_map value_line (take l.place (enumerate_from 0 l.values))) (g.O.Sink.held l.out) l.held.items;
  later : g.O.Sink.faults l.initial.out ≤ g.O.Sink.faults l.out;
}
