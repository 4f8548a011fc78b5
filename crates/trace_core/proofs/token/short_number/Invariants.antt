use Rattle.std.proofs.Common.{◌≡◌, ◌^◌, length}
use Rattle.exact_text.specs.Reading.{digits_at, number_at}
use Rattle.trace_core.proofs.token.short_number.Given as goal

abbrev pub invariant-loop-rest : goal.invariant-loop-rest
invariant-loop-rest l = digits_at (2 ^ 64) 32 l.value l.rest ≡ number_at 0 (2 ^ 64) 32 l.bytes

abbrev pub decreases-loop-rest : goal.decreases-loop-rest
decreases-loop-rest l = length l.rest
