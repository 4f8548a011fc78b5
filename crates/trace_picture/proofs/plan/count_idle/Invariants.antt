use Rattle.std.proofs.Common.{◌≡◌, ◌≤◌}
use Rattle.larch_actions.specs.State.{count_below}
use Rattle.trace_board.specs.Tracked.{tracked_of}
use Rattle.trace_picture.specs.Plan.{is_idle}
use Rattle.trace_picture.proofs.plan.count_idle.Given as goal

abbrev pub invariant-loop-t : goal.invariant-loop-t
invariant-loop-t l = record {
  count : l.count ≡ count_below (is_idle l.layout.version l.plan (tracked_of l.board)) l.t;
  few : l.count ≤ l.t;
}
