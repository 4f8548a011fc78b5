use Rattle.std.proofs.Common.{◌≤◌, ◌++◌, length, take, drop}
use Rattle.trace_core.specs.Text.{values_text}
use Rattle.trace_core.specs.Whole.{numbered}
use Rattle.trace_core.proofs.Flowing.{Pending}
use Rattle.trace_core.proofs.whole_texts.put_values.Given as goal

abbrev pub invariant-loop-k : goal.invariant-loop-k
invariant-loop-k g l = record {
  pending : Pending (g.O.Sink.held l.initial.out) (g.O.Sink.held l.out) (take l.last l.buf) (take l.at l.initial.buf ++ values_text (numbered 0 l.values)) (values_text (numbered l.k (drop l.k l.values)));
  within : l.last ≤ length l.buf;
  later : g.O.Sink.faults l.initial.out ≤ g.O.Sink.faults l.out;
}
