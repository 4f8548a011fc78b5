use Rattle.std.proofs.Common.{◌≡◌, ◌+◌, ◌*◌, ◌≤◌, ◌++◌, take}
use Rattle.trace_board.specs.Tracked.{tracked_of}
use Rattle.trace_shapes.specs.Shapes.{each_below}
use Rattle.trace_picture.specs.Overview.{held_cell}
use Rattle.trace_picture.proofs.overview.add_each_held.Given as goal

abbrev pub invariant-loop-m : goal.invariant-loop-m
invariant-loop-m l = record {
  text : take l.last l.buf ≡ take l.at l.initial.buf ++ each_below (held_cell (tracked_of l.board) l.start l.x l.y) l.m;
  near : l.last ≤ l.at + 140 * l.m;
}
