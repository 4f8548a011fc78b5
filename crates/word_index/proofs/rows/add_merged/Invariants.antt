use Rattle.std.proofs.Common.{◌+◌, ◌-◌, ◌≤◌, map, length, vec_capacity, vec_len}
use Rattle.word_index.specs.Numbered.{moved}
use Rattle.word_index.proofs.RowsMerging.{Merging}
use Rattle.word_index.proofs.rows.add_merged.Given as goal

abbrev pub invariant-loop-i : goal.invariant-loop-i
invariant-loop-i l = record {
  merging : Merging (map (moved l.of_x) l.xs) (map (moved l.of_y) l.ys) l.initial.out.items l.i l.j l.out.items;
  room : vec_len l.out + ((length l.xs - l.i) + (length l.ys - l.j)) ≤ vec_capacity l.out;
}

abbrev pub decreases-loop-i : goal.decreases-loop-i
decreases-loop-i l = length l.xs + length l.ys - (l.i + l.j)
