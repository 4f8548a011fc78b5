use Rattle.firefly.proofs.Accepted.{accepts_rounds}
use Rattle.firefly.proofs.laws.check_accepts_rounds.Goals as goal

pub returns : goal.returns
returns c = accepts_rounds
