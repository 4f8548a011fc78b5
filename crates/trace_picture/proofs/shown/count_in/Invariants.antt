use Rattle.std.proofs.Common.{◌≡◌, ◌≤◌}
use Rattle.std.specs.Prelude.{is_some}
use Rattle.larch_actions.specs.State.{count_below}
use Rattle.trace_board.specs.History.{entry_of}
use Rattle.trace_picture.proofs.shown.count_in.Given as goal

abbrev pub invariant-loop-k : goal.invariant-loop-k
invariant-loop-k l = record {
  count : l.count ≡ count_below (λ k. is_some (entry_of l.table k)) l.k;
  few : l.count ≤ l.k;
}
