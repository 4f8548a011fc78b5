use Rattle.std.proofs.Common.{◌≡◌, ◌<◌, ◌≤◌, ℕ, get_or, length}
use Rattle.larch_actions.specs.Sets.{in_set}
use Rattle.script_search.specs.declared.board.Thread.{Thread}
use Rattle.script_search.specs.Thinned.{thin}
use Rattle.script_search.proofs.board.rows.thin_all.Given as goal

abbrev pub invariant-loop-t : goal.invariant-loop-t
invariant-loop-t l =
    (length l.threads.items ≡ length l.initial.threads.items)
    × ((k : ℕ) (d : Thread) → k < l.t → get_or l.threads.items k d ≡ thin l.cond (in_set l.left k) (get_or l.initial.threads.items k d))
    × ((k : ℕ) (d : Thread) → l.t ≤ k → get_or l.threads.items k d ≡ get_or l.initial.threads.items k d)
