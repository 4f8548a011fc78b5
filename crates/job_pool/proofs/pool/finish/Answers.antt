use Rattle.job_pool.proofs.Calling.{all_same}
use Rattle.job_pool.proofs.Stopping.{ended, no_stop}
use Rattle.job_pool.proofs.pool.finish.Goals as goal

pub returns-in-Some-clause-called : goal.returns-in-Some-clause-called
returns-in-Some-clause-called g c = all_same g.J.Job.state g.J.Job.gives g.J.Job.next c.args.slots.now

pub returns-in-None-clause-ends : goal.returns-in-None-clause-ends
returns-in-None-clause-ends g c = ended c.call_all.result c.args.slots.now c.call_all.new.slots c.call_all.ensures.ends

pub returns-in-None-clause-stays : goal.returns-in-None-clause-stays
returns-in-None-clause-stays g c = λ stop. absurd (no_stop c.args.slots.now c.in-None.ensures stop.0 stop.1)
