use Rattle.trace_explain.proofs.Facing as facing
use Rattle.trace_explain.proofs.laws.facts_are_so.Goals as goal

pub returns : goal.returns
returns c = facing.facts_are_so
