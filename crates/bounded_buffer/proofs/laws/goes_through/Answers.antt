use Rattle.bounded_buffer.proofs.Alone.{went_through}
use Rattle.bounded_buffer.proofs.laws.goes_through.Goals as goal

pub returns : goal.returns
returns g c = went_through
