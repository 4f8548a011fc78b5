use Rattle.std.proofs.Common.{◌≡◌, ◌+◌, ◌*◌, ◌≤◌, ◌++◌, take}
use Rattle.trace_board.specs.History.{entry_of}
use Rattle.trace_board.specs.Tracked.{tracked_of}
use Rattle.trace_shapes.specs.Shapes.{each_below}
use Rattle.trace_picture.specs.Bands.{bar_if}
use Rattle.trace_picture.proofs.bands.add_bars.Given as goal

abbrev pub invariant-loop-m : goal.invariant-loop-m
invariant-loop-m l = record {
  text : take l.last l.buf ≡ take l.at l.initial.buf ++ each_below (λ m. bar_if l.reach (tracked_of l.board) m (entry_of l.board.held m)) l.m;
  near : l.last ≤ l.at + 550 * l.m;
}
