use Rattle.std.proofs.Common.{◌≡◌, ◌≤◌}
use Rattle.std.specs.Prelude.{is_some}
use Rattle.larch_actions.specs.State.{count_below}
use Rattle.trace_board.specs.Causes.{cause_of}
use Rattle.trace_board.specs.Tracked.{came}
use Rattle.trace_picture.proofs.shown.count_let_go.Given as goal

abbrev pub invariant-loop-t : goal.invariant-loop-t
invariant-loop-t l = record {
  count : l.count ≡ count_below (λ t. is_some (came (cause_of l.board.stands t))) l.t;
  few : l.count ≤ l.t;
}
