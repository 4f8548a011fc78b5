use Rattle.script_search.specs.Firsts.{AreFirst}
use Rattle.script_search.proofs.board.first.first_threads.Given as goal

abbrev pub invariant-loop-t : goal.invariant-loop-t
invariant-loop-t l = AreFirst l.version l.t l.threads.items
