use Rattle.std.proofs.Common.{arith}
use Rattle.bounded_buffer.proofs.laws.room_is_not_more.Goals as goal

pub returns : goal.returns
returns c = λ at plain same. omega (arith, plain.room, plain.more, same)
