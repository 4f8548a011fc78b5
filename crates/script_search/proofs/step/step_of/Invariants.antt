use Rattle.script_search.specs.Boards.{moment_of}
use Rattle.script_search.proofs.Stepping.{NoneBelow}
use Rattle.script_search.proofs.step.step_of.Given as goal

abbrev pub invariant-loop-k : goal.invariant-loop-k
invariant-loop-k l = NoneBelow l.plan.layout l.plan.lines (moment_of l.from) (moment_of l.to) l.t l.ways l.k
