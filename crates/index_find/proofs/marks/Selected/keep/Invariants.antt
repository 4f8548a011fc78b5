use Rattle.std.proofs.Common.{◌≡◌, ℕ, ◌<◌, ◌≤◌, ◌&&◌, length}
use Rattle.index_find.specs.Marks.{at}
use Rattle.index_find.proofs.marks.Selected.keep.Given as goal

abbrev pub invariant-loop-k : goal.invariant-loop-k
invariant-loop-k l = record {
  many : length l.self-inside.marks.items ≡ length l.initial.self-inside.marks.items;
  done : (k : ℕ) → k < l.k → at l.self-inside.marks.items k ≡ (at l.initial.self-inside.marks.items k && at l.other-inside.marks.items k);
  same : (k : ℕ) → l.k ≤ k → at l.self-inside.marks.items k ≡ at l.initial.self-inside.marks.items k;
}
