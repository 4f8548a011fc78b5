use Rattle.std.proofs.Common.{◌≡◌, ◌+◌, ◌-◌, ◌≤◌, ◌++◌, length, map, take, vec_capacity, vec_len}
use Rattle.word_index.specs.Numbered.{moved}
use Rattle.word_index.proofs.rows.add_moved.Given as goal

abbrev pub invariant-loop-place : goal.invariant-loop-place
invariant-loop-place l = record {
  is : l.out.items ≡ l.initial.out.items ++ map (moved l.numbers) (take l.place-index l.row);
  room : vec_len l.out + (length l.row - l.place-index) ≤ vec_capacity l.out;
}
