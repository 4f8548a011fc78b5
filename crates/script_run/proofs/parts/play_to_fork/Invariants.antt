use Rattle.script_run.specs.Slots.{IsAhead}
use Rattle.script_run.proofs.parts.play_to_fork.Given as goal

abbrev pub invariant-loop-next : goal.invariant-loop-next
invariant-loop-next g l = IsAhead l.pkg l.lines l.number l.at l.next l.numbers l.me
