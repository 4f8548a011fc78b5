use Rattle.std.proofs.Common.{ℕ, ◌<◌}
use Rattle.script_plays.specs.Plays.{IsFinished}
use Rattle.script_search.specs.Boards.{moment_of, scene_of}
use Rattle.script_search.proofs.whole.is_whole.Given as goal

abbrev pub invariant-loop-t : goal.invariant-loop-t
invariant-loop-t l = (k : ℕ) → k < l.t → IsFinished l.plan.layout.version l.plan.lines (scene_of (moment_of l.board)) k
