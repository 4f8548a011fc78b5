use Rattle.script_plays.proofs.Bounded.{rank}
use Rattle.script_search.specs.Boards.{moment_of, scene_of, IsBoard}
use Rattle.script_search.proofs.Chaining.{Begins}
use Rattle.script_search.proofs.chain.go_along.Given as goal

abbrev pub invariant-loop-at : goal.invariant-loop-at
invariant-loop-at l = record {
  board : IsBoard l.plan.layout (moment_of l.at);
  begins : Begins l.plan.layout l.plan.lines (scene_of (moment_of l.initial.at)) l.initial.events.items l.events.items (scene_of (moment_of l.at));
}

abbrev pub decreases-loop-at : goal.decreases-loop-at
decreases-loop-at l = rank l.plan.layout l.plan.lines (scene_of (moment_of l.at))
