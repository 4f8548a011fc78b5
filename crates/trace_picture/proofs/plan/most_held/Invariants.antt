use Rattle.std.proofs.Common.{◌≡◌, ◌≤◌}
use Rattle.trace_board.specs.History.{entry_of}
use Rattle.trace_board.specs.declared.rows.Bar.TheVariants.{Mutex}
use Rattle.trace_board.specs.Tracked.{tracked_of}
use Rattle.trace_picture.specs.Plan.{lanes_to, most_below}
use Rattle.trace_picture.proofs.plan.most_held.Given as goal

abbrev pub invariant-loop-m : goal.invariant-loop-m
invariant-loop-m l = record {
  lanes : l.most ≡ most_below (λ m. lanes_to (tracked_of l.board) l.t (Mutex m) (entry_of l.board.held m)) l.m;
  few : l.most ≤ 4;
}
