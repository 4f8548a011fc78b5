use Rattle.bounded_buffer.proofs.Alone.{took_prefix}
use Rattle.bounded_buffer.proofs.laws.in_order.Goals as goal

pub returns : goal.returns
returns g c = took_prefix
