use Rattle.std.proofs.Common.{◌≡◌, ◌+◌, ◌*◌, ◌≤◌, ◌++◌, take}
use Rattle.trace_board.specs.Tracked.{tracked_of}
use Rattle.trace_shapes.specs.Shapes.{each_below}
use Rattle.trace_picture.specs.Overview.{ran_cell}
use Rattle.trace_picture.proofs.overview.add_each_ran.Given as goal

abbrev pub invariant-loop-t : goal.invariant-loop-t
invariant-loop-t l = record {
  text : take l.last l.buf ≡ take l.at l.initial.buf ++ each_below (ran_cell (tracked_of l.board) l.start l.x l.y) l.t;
  near : l.last ≤ l.at + 120 * l.t;
}
