use Rattle.firefly.proofs.Accepted.{accepts_index_runs}
use Rattle.firefly.proofs.laws.check_accepts_index_runs.Goals as goal

pub returns : goal.returns
returns c = accepts_index_runs
