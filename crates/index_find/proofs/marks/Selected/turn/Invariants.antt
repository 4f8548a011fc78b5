use Rattle.std.proofs.Common.{◌≡◌, ℕ, ◌<◌, ◌≤◌, not}
use Rattle.index_find.specs.Marks.{at}
use Rattle.index_find.proofs.marks.Selected.turn.Given as goal

abbrev pub invariant-loop-mark : goal.invariant-loop-mark
invariant-loop-mark l = record {
  done : (k : ℕ) → k < l.mark-index → at l.mark-items k ≡ not (at l.initial.mark-items k);
  same : (k : ℕ) → l.mark-index ≤ k → at l.mark-items k ≡ at l.initial.mark-items k;
}
