use Rattle.std.proofs.Common.{◌≤◌, ◌-◌, length}
use Rattle.index_text.specs.Numerals.{is_digit}
use Rattle.index_text.specs.Steps.{IsPassed}
use Rattle.index_text.proofs.long.digits_end.Given as goal

abbrev pub invariant-loop-at : goal.invariant-loop-at
invariant-loop-at l = record { within : l.at ≤ length l.bytes; digits : IsPassed is_digit l.bytes l.at }

abbrev pub decreases-loop-at : goal.decreases-loop-at
decreases-loop-at l = length l.bytes - l.at
