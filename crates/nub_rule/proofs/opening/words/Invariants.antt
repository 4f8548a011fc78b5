use Rattle.std.proofs.Common.{◌≡◌, ◌≢◌, ◌<◌, ℕ, length, get_or}
use Rattle.nub_rule.specs.Places.{life_at, word_count}
use Rattle.nub_rule.proofs.opening.words.Given as goal

abbrev pub invariant-loop-t : goal.invariant-loop-t
invariant-loop-t l = record {
  wide : length l.words.items ≡ word_count;
  lives : (t : ℕ) → t < l.t → get_or l.words.items (life_at t) 0 ≡ 1;
  zeros : (k : ℕ) → ((t : ℕ) → t < l.t → k ≢ life_at t) → get_or l.words.items k 0 ≡ 0;
}
