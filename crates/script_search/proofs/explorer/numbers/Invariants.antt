use Rattle.script_search.specs.Boards.{moment_of, played_of}
use Rattle.script_search.specs.Explored.{AreNumbers}
use Rattle.script_search.proofs.explorer.numbers.Given as goal

abbrev pub invariant-loop-m : goal.invariant-loop-m
invariant-loop-m l = AreNumbers l.plan.layout l.plan.lines (played_of (moment_of l.board)) l.m l.numbers.items
