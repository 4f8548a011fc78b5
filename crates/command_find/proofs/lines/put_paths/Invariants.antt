use Rattle.std.proofs.Common.{◌≤◌, take}
use Rattle.text_output.specs.Sent.{Sends}
use Rattle.command_find.specs.Lines.{lines_of}
use Rattle.command_find.proofs.lines.put_paths.Given as goal

abbrev pub invariant-loop-path : goal.invariant-loop-path
invariant-loop-path g l = record {
  sent : Sends (g.O.Sink.held l.initial.out) l.initial.held.items (lines_of (take l.path-index l.paths)) (g.O.Sink.held l.out) l.held.items;
  later : g.O.Sink.faults l.initial.out ≤ g.O.Sink.faults l.out;
}
