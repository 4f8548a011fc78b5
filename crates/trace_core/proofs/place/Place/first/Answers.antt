use Rattle.trace_core.proofs.Spelling.{spelled_first}
use Rattle.trace_core.proofs.place.Place.first.Goals as goal

pub invariant_of-result : goal.invariant_of-result
invariant_of-result c = spelled_first
