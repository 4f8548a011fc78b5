use Rattle.std.proofs.Common.{◌+◌, ◌-◌, ◌≤◌, length, vec_capacity}
use Rattle.word_index.proofs.Joined.{Joined}
use Rattle.word_index.proofs.join.join_into.Given as goal

abbrev pub invariant-loop-i : goal.invariant-loop-i
invariant-loop-i l = record {
  joined : Joined l.a l.b l.i l.j l.all l.of_a.items l.of_b.items;
  room_of_a : length l.a ≤ vec_capacity l.of_a;
  room_of_b : length l.b ≤ vec_capacity l.of_b;
}

abbrev pub decreases-loop-i : goal.decreases-loop-i
decreases-loop-i l = length l.a + length l.b - (l.i + l.j)
