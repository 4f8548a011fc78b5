use Rattle.std.proofs.Common.{◌≡◌}
use Rattle.trace_core.specs.declared.reader_state.Phase.TheVariants as phase
use Rattle.trace_core.specs.Reader.{standing}
use Rattle.test_trace.proofs.lines.count_events.Given as goal

abbrev pub invariant-loop : goal.invariant-loop
invariant-loop g l = (standing g.I.Source.left l.reader).phase ≡ phase.Events
