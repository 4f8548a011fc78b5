use Rattle.std.proofs.Common.{◌≡◌, ◌<◌, length}
use Rattle.trace_core.specs.Names.{digits_from, number_from}
use Rattle.trace_core.proofs.names.number_from.Given as goal

abbrev pub invariant-loop-rest : goal.invariant-loop-rest
invariant-loop-rest l = record {
  below : l.value < l.bound;
  same : digits_from l.several l.least l.bound l.value l.rest ≡ number_from l.several l.least l.bound l.bytes;
}

abbrev pub decreases-loop-rest : goal.decreases-loop-rest
decreases-loop-rest l = length l.rest
