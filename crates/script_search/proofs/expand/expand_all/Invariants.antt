use Rattle.std.proofs.Common.{◌<◌}
use Rattle.script_search.specs.Boards.{moment_of}
use Rattle.script_search.specs.Tries.{Tries}
use Rattle.script_search.proofs.expand.expand_all.Given as goal

abbrev pub invariant-loop-thread : goal.invariant-loop-thread
invariant-loop-thread l = Tries l.plan.layout l.plan.lines l.initial.found l.found (moment_of l.board) (λ e. e.thread.0 < l.thread) l.moves
