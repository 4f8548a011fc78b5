use Rattle.indexer.proofs.Getting.{makes_none}
use Rattle.indexer.proofs.run.crew.fn.run_jobs.at_once_beside+arg7.Goals as goal

pub returns-else-refused : goal.returns-else-refused
returns-else-refused g c = makes_none _ _
