use Rattle.std.proofs.Common.{◌≡◌, ◌++◌}
use Rattle.std.specs.List.{range_with_len, flat_map}
use Rattle.firefly_outside.proofs.SampleLines.{spaced_word}
use Rattle.firefly_outside.proofs.samples.push_line.Given as goal

abbrev pub invariant-loop-q : goal.invariant-loop-q
invariant-loop-q l = l.bytes.items ≡ l.initial.bytes.items ++ flat_map (spaced_word l.seed l.file l.line) (range_with_len 0 l.q)
