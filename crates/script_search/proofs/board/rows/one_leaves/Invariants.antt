use Rattle.std.proofs.Common.{◌≡◌, ◌<◌, ℕ, true, false}
use Rattle.larch_actions.specs.Sets.{in_set}
use Rattle.script_search.specs.Thinned.{members_in}
use Rattle.script_search.proofs.board.rows.one_leaves.Given as goal

abbrev pub invariant-loop-t : goal.invariant-loop-t
invariant-loop-t l = (k : ℕ) → k < l.t → members_in l.threads l.cond k ≡ true → in_set l.left k ≡ false → ⊥
