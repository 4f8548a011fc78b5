use Rattle.std.proofs.Common.{◌≡◌, ◌+◌, ◌*◌, ◌≤◌, ◌++◌, take}
use Rattle.larch_actions.specs.State.{count_below}
use Rattle.trace_board.specs.Tracked.{tracked_of}
use Rattle.trace_shapes.specs.Shapes.{each_below}
use Rattle.trace_picture.specs.Plan.{is_idle}
use Rattle.trace_picture.specs.Bands.{idle_name}
use Rattle.trace_picture.proofs.bands.add_idle_names.Given as goal

abbrev pub invariant-loop-t : goal.invariant-loop-t
invariant-loop-t l = record {
  text : take l.last l.buf ≡ take l.at l.initial.buf ++ each_below (idle_name l.layout.version l.plan (tracked_of l.board)) l.t;
  near : l.last ≤ l.at + 22 * l.t;
  count : l.before ≡ count_below (is_idle l.layout.version l.plan (tracked_of l.board)) l.t;
  few : l.before ≤ l.t;
}
