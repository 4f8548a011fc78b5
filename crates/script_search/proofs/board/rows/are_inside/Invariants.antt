use Rattle.std.proofs.Common.{◌≡◌, ◌<◌, ℕ, true}
use Rattle.larch_actions.specs.Sets.{in_set}
use Rattle.script_search.specs.Thinned.{members_in}
use Rattle.script_search.proofs.board.rows.are_inside.Given as goal

abbrev pub invariant-loop-t : goal.invariant-loop-t
invariant-loop-t l = (k : ℕ) → k < l.t → in_set l.left k ≡ true → members_in l.threads l.cond k ≡ true
