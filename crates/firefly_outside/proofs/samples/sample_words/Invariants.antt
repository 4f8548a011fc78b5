use Rattle.std.proofs.Common.{◌≡◌, map}
use Rattle.std.specs.List.{range_with_len}
use Rattle.firefly_outside.specs.Samples.{sample_word}
use Rattle.firefly_outside.proofs.samples.sample_words.Given as goal

abbrev pub invariant-loop-n : goal.invariant-loop-n
invariant-loop-n l = l.words.items ≡ map sample_word (range_with_len 0 l.n-counter)
