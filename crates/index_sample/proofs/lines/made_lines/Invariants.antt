use Rattle.std.proofs.Common.{◌≡◌, map}
use Rattle.std.specs.List.{range_with_len}
use Rattle.firefly_outside.specs.Samples.{sample_line}
use Rattle.index_sample.proofs.lines.made_lines.Given as goal

abbrev pub invariant-loop-first : goal.invariant-loop-first
invariant-loop-first l = l.lines.items ≡ map (λ n. sample_line n 0 0) (range_with_len 0 l.first)
