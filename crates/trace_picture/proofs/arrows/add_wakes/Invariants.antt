use Rattle.std.proofs.Common.{◌≡◌, ◌+◌, ◌*◌, ◌≤◌, ◌++◌, take}
use Rattle.trace_board.specs.Causes.{cause_of}
use Rattle.trace_shapes.specs.Shapes.{each_below}
use Rattle.trace_picture.specs.Bands.{wake_at}
use Rattle.trace_picture.proofs.arrows.add_wakes.Given as goal

abbrev pub invariant-loop-i : goal.invariant-loop-i
invariant-loop-i l = record {
  text : take l.last l.buf ≡ take l.at l.initial.buf ++ each_below (wake_at l.freeing (cause_of l.stands)) l.i;
  near : l.last ≤ l.at + 365 * l.i;
}
