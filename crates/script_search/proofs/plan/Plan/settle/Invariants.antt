use Rattle.std.proofs.Common.{◌≡◌, ◌-◌, length}
use Rattle.script_text.specs.Runs.{lines_of}
use Rattle.script_plays.specs.Scenes.{settled}
use Rattle.script_search.specs.Boards.{moment_of, spec_of, played_of, SameSize}
use Rattle.script_search.proofs.plan.Plan.settle.Given as goal

abbrev pub invariant-loop-line : goal.invariant-loop-line
invariant-loop-line l =
    SameSize (moment_of l.initial.board) (moment_of l.board) × (spec_of (moment_of l.board) ≡ spec_of (moment_of l.initial.board))
    × (settled l.self.layout.threads l.self.lines l.t (played_of (moment_of l.board)) ≡ settled l.self.layout.threads l.self.lines l.t (played_of (moment_of l.initial.board)))

abbrev pub decreases-loop-line : goal.decreases-loop-line
decreases-loop-line l = length (lines_of l.t l.self.lines) - played_of (moment_of l.board) l.t
