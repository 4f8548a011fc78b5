use Rattle.std.proofs.Common.{◌≤◌, take}
use Rattle.text_output.specs.Sent.{Sends}
use Rattle.text_output.specs.Paths.{escaped}
use Rattle.text_output.proofs.paths.put_bytes.Given as goal

abbrev pub invariant-loop-byte : goal.invariant-loop-byte
invariant-loop-byte g l = record {
  sent : Sends (g.O.Sink.held l.initial.out) l.initial.held.items (escaped (take l.byte-index l.path)) (g.O.Sink.held l.out) l.held.items;
  later : g.O.Sink.faults l.initial.out ≤ g.O.Sink.faults l.out;
}
