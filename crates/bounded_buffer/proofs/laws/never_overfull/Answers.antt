use Rattle.bounded_buffer.proofs.laws.never_overfull.Goals as goal

pub returns : goal.returns
returns g c = λ values shares keeps m q at. (keeps m q at).room
