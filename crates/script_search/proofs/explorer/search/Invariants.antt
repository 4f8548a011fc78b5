use Rattle.std.proofs.Common.{◌-◌}
use Rattle.script_search.specs.Searches.{Searched}
use Rattle.script_search.proofs.explorer.search.Given as goal

abbrev pub invariant-loop-alloc : goal.invariant-loop-alloc
invariant-loop-alloc l = Searched l.plan.layout l.plan.lines l.limit l.found l.place

abbrev pub decreases-loop-alloc : goal.decreases-loop-alloc
decreases-loop-alloc l = l.limit - l.place
