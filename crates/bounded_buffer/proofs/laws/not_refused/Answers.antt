use Rattle.bounded_buffer.proofs.Alone.{never_shut}
use Rattle.bounded_buffer.proofs.laws.not_refused.Goals as goal

pub returns : goal.returns
returns g c = never_shut
