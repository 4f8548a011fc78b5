use Rattle.std.proofs.Common.{◌≡◌, ◌<◌, ℕ, false}
use Rattle.larch_actions.specs.Sets.{in_set}
use Rattle.script_search.proofs.board.rows.is_none.Given as goal

abbrev pub invariant-loop-t : goal.invariant-loop-t
invariant-loop-t l = (k : ℕ) → k < l.t → in_set l.left k ≡ false
