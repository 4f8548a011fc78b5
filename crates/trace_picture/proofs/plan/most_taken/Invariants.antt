use Rattle.std.proofs.Common.{◌≡◌, ◌≤◌}
use Rattle.trace_board.specs.History.{entry_of}
use Rattle.trace_board.specs.declared.rows.Bar.TheVariants.{Semaphore}
use Rattle.trace_board.specs.Tracked.{tracked_of}
use Rattle.trace_picture.specs.Plan.{lanes_to, most_below}
use Rattle.trace_picture.proofs.plan.most_taken.Given as goal

abbrev pub invariant-loop-s : goal.invariant-loop-s
invariant-loop-s l = record {
  lanes : l.most ≡ most_below (λ s. lanes_to (tracked_of l.board) l.t (Semaphore s) (entry_of l.board.taken s)) l.s;
  few : l.most ≤ 4;
}
