use Rattle.std.proofs.Common.{◌≡◌, ◌+◌, ◌*◌, ◌≤◌, ◌++◌, take}
use Rattle.trace_board.specs.Tracked.{tracked_of, longest_in}
use Rattle.trace_shapes.specs.Shapes.{each_below}
use Rattle.trace_picture.specs.Longest.{hold_line}
use Rattle.trace_picture.proofs.longest.add_holds.Given as goal

abbrev pub invariant-loop-m : goal.invariant-loop-m
invariant-loop-m l = record {
  text : take l.last l.buf ≡ take l.at l.initial.buf ++ each_below (λ m. hold_line l.low m (longest_in (tracked_of l.board) l.count m)) l.m;
  near : l.last ≤ l.at + 560 * l.m;
}
