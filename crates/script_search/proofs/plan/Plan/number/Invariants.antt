use Rattle.std.proofs.Common.{◌≡◌, ◌*◌, ◌≤◌, take}
use Rattle.script_text.specs.Runs.{lines_of, total}
use Rattle.script_plays.specs.Scenes.{sum_below}
use Rattle.script_search.specs.Boards.{moment_of, played_of}
use Rattle.script_search.proofs.plan.Plan.number.Given as goal

abbrev pub invariant-loop-t : goal.invariant-loop-t
invariant-loop-t l =
    (l.sum ≡ sum_below (λ t. total (take (played_of (moment_of l.board) t) (lines_of t l.self.lines)) l.mutex) l.t) × (l.sum ≤ 100000000000 * l.t)
