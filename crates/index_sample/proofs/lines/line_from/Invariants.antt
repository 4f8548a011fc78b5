use Rattle.std.proofs.Common.{◌≡◌, ◌≤◌, ◌*◌}
use Rattle.std.specs.List.{range_with_len, flat_map}
use Rattle.arrayvec.specs.ArrayString.{array_string_len}
use Rattle.firefly_outside.proofs.SampleLines.{spaced_word}
use Rattle.index_sample.proofs.lines.line_from.Given as goal

abbrev pub invariant-loop-q : goal.invariant-loop-q
invariant-loop-q l = (l.line.bytes ≡ flat_map (spaced_word l.first 0 0) (range_with_len 0 l.q)) × (array_string_len l.line ≤ 22 * l.q)
