use Rattle.std.proofs.Common.{◌≡◌, ◌+◌, ◌*◌, ◌≤◌, ◌++◌, take}
use Rattle.trace_board.specs.History.{entry_of}
use Rattle.trace_shapes.specs.Shapes.{each_below}
use Rattle.trace_shapes.specs.Legend.{entry_if}
use Rattle.trace_shapes.proofs.legend.add_legend.Given as goal

abbrev pub invariant-loop-place : goal.invariant-loop-place
invariant-loop-place l = record {
  text : take l.last l.buf ≡ take l.at l.initial.buf ++ each_below (entry_if (entry_of l.shown)) l.place;
  near : l.last ≤ l.at + 400 * l.place;
}
