use Rattle.std.proofs.Common.{arith, None}
use Rattle.nub_rule.specs.Parts.{left_turns}
use Rattle.nub_rule.specs.Plays.{less}
use Rattle.nub_rule.proofs.Requeueing.{may_leave_sem_queue}
use Rattle.nub_rule.proofs.steps.alert.leave_sem_queue.Goals as goal

pub leave-requires-clause-may : goal.leave-requires-clause-may
leave-requires-clause-may g c κs within = let x = c.requires.stands in λ there. may_leave_sem_queue c.args.me.now c.args.s.0 x.0 (λ law. let y = law.semaphores in let z = c.requires.named in omega arith) c.requires.inside x.1 x.2.0 there

pub returns-clause-out : goal.returns-clause-out
returns-clause-out g c = λ e. c.leave.ensures.out e (λ n p. record p { queue = less n p.queue; left = less n p.left; stand = None; turns = left_turns p.stand p.turns }) (λ st me r me' word t. t)
