use Rattle.std.proofs.Common.{◌≡◌, ℕ, length}
use Rattle.index_text.specs.Numerals.{capped, digits_from, numeral_at}
use Rattle.index_text.proofs.token.capped_numeral.Given as goal

-- the digits so far stand for a number that the value is, as far as it goes
abbrev pub invariant-loop-rest : goal.invariant-loop-rest
invariant-loop-rest l = (v : ℕ) × (l.value ≡ capped v) × (digits_from l.stop v l.rest ≡ numeral_at l.stop l.bytes)

abbrev pub decreases-loop-rest : goal.decreases-loop-rest
decreases-loop-rest l = length l.rest
