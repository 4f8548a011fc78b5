use Rattle.job_pool.proofs.Moving.{called_still}
use Rattle.job_pool.proofs.calls.is_stopped.Goals as goal

pub test_alert-requires-clause-rest : goal.test_alert-requires-clause-rest
test_alert-requires-clause-rest g c κs within = c.requires.between.1.idle.rest

pub returns-clause-moved : goal.returns-clause-moved
returns-clause-moved g c = let e = c.test_alert.ensures in called_still c.args.p.now c.args.me.now c.test_alert.new.me e.idle e.share
