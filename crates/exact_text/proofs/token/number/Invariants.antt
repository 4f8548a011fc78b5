use Rattle.std.proofs.Common.{◌≡◌, ◌<◌, length}
use Rattle.exact_text.specs.Reading.{digits_at, number_at}
use Rattle.exact_text.proofs.token.number.Given as goal

abbrev pub invariant-loop-rest : goal.invariant-loop-rest
invariant-loop-rest l = record {
  below : l.value < l.bound;
  same : digits_at l.bound l.stop l.value l.rest ≡ number_at l.least l.bound l.stop l.bytes;
}

abbrev pub decreases-loop-rest : goal.decreases-loop-rest
decreases-loop-rest l = length l.rest
