use Rattle.std.proofs.Common.{◌≡◌, ◌≤◌}
use Rattle.trace_board.specs.History.{entry_of}
use Rattle.trace_shapes.specs.Legend.{shown_before}
use Rattle.trace_shapes.proofs.legend.count_shown.Given as goal

abbrev pub invariant-loop-place : goal.invariant-loop-place
invariant-loop-place l = record {
  count : l.count ≡ shown_before (entry_of l.shown) l.place;
  few : l.count ≤ l.place;
}
