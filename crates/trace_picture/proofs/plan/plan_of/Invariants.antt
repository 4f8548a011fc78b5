use Rattle.std.proofs.Common.{◌≡◌, ◌+◌, ◌*◌, ◌≤◌, length, take}
use Rattle.trace_board.specs.Tracked.{tracked_of}
use Rattle.trace_picture.specs.Plan.{row_of, top_of, rows_below}
use Rattle.trace_picture.proofs.plan.plan_of.Given as goal

abbrev pub invariant-loop-t : goal.invariant-loop-t
invariant-loop-t l = record {
  rows : take l.t l.rows ≡ rows_below (row_of l.layout (tracked_of l.board) l.kept) l.t;
  end : l.end ≡ top_of l.layout (tracked_of l.board) l.kept l.t;
  small : l.end ≤ 20 + 78 * l.t;
  long : length l.rows ≡ 256;
}
