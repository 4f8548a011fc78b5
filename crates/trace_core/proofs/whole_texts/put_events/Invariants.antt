use Rattle.std.proofs.Common.{◌≤◌, ◌++◌, length, take, drop}
use Rattle.trace_core.specs.Text.{end_line}
use Rattle.trace_core.specs.Whole.{event_lines}
use Rattle.trace_core.proofs.Flowing.{Pending}
use Rattle.trace_core.proofs.whole_texts.put_events.Given as goal

abbrev pub invariant-loop-i : goal.invariant-loop-i
invariant-loop-i g l = record {
  pending : Pending (g.O.Sink.held l.initial.out) (g.O.Sink.held l.out) (take l.last l.buf) (take l.at l.initial.buf ++ (event_lines 0 l.events ++ end_line (length l.events))) (event_lines l.i (drop l.i l.events) ++ end_line (length l.events));
  within : l.last ≤ length l.buf;
  later : g.O.Sink.faults l.initial.out ≤ g.O.Sink.faults l.out;
}
