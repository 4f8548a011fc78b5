use Rattle.std.proofs.Common.{◌≡◌, ◌+◌, ◌*◌, ◌≤◌, ◌++◌, take}
use Rattle.trace_board.specs.History.{entry_of}
use Rattle.trace_board.specs.Tracked.{tracked_of}
use Rattle.trace_shapes.specs.Shapes.{each_below}
use Rattle.trace_picture.specs.Bands.{taken_if}
use Rattle.trace_picture.proofs.bands.add_takings.Given as goal

abbrev pub invariant-loop-s : goal.invariant-loop-s
invariant-loop-s l = record {
  text : take l.last l.buf ≡ take l.at l.initial.buf ++ each_below (λ s. taken_if l.reach (tracked_of l.board) s (entry_of l.board.taken s)) l.s;
  near : l.last ≤ l.at + 550 * l.s;
}
