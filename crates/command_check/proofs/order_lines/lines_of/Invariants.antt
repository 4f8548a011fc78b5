use Rattle.std.proofs.Common.{◌≡◌, ◌+◌, ◌*◌, ◌≤◌, ◌++◌, length, take}
use Rattle.std.specs.Prelude.{codes, decimal}
use Rattle.std.specs.List.{flat_map}
use Rattle.arrayvec.specs.ArrayString.{array_string_len}
use Rattle.command_check.specs.OrderLines.{edge_line}
use Rattle.command_check.proofs.order_lines.lines_of.Given as goal

abbrev pub invariant-loop-k : goal.invariant-loop-k
invariant-loop-k l = record {
  bytes : l.text.bytes ≡ (codes "cycle " ++ decimal (length l.cycle) ++ codes "\n") ++ flat_map edge_line (take l.k l.cycle);
  room : array_string_len l.text ≤ 27 + 87 * l.k;
}
