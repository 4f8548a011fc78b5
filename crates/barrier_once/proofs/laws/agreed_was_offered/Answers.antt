use Rattle.barrier_once.proofs.laws.agreed_was_offered.Goals as goal

pub returns : goal.returns
returns c = λ w values shares h n s v at e. h.agreed.origin v (h.agreed.same n s at v e)
