use Rattle.trace_core.proofs.line.line_of.Goals as goal

pub returns-in-Values : goal.returns-in-Values
returns-in-Values c = rw c.in-Values.is c.value.ensures
