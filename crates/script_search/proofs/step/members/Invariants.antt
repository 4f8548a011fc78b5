use Rattle.script_search.specs.Boards.{moment_of}
use Rattle.script_search.proofs.Stepping.{Gathers}
use Rattle.script_search.proofs.step.members.Given as goal

abbrev pub invariant-loop-t : goal.invariant-loop-t
invariant-loop-t l = Gathers (moment_of l.board) l.cond l.set l.t
