use Rattle.std.proofs.Common.{◌≡◌}
use Rattle.std.specs.List.{range_with_len, flat_map}
use Rattle.firefly_outside.specs.Samples.{sample_line}
use Rattle.index_sample.proofs.lines.file_bytes.Given as goal

abbrev pub invariant-loop-line : goal.invariant-loop-line
invariant-loop-line l = l.bytes.items ≡ flat_map (sample_line l.seed l.file) (range_with_len 0 l.line)
