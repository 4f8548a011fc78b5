use Rattle.command_explore.proofs.Lining.{IsAhead}
use Rattle.command_explore.proofs.line.place_of.Given as goal

abbrev pub invariant-loop-i : goal.invariant-loop-i
invariant-loop-i l = IsAhead l.lines l.thread l.fn.played l.i l.left
