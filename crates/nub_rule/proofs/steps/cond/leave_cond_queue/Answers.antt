use Rattle.std.proofs.Common.{arith, None}
use Rattle.nub_rule.specs.Plays.{less, recounted}
use Rattle.nub_rule.proofs.Requeueing.{may_leave_cond_queue}
use Rattle.nub_rule.proofs.steps.cond.leave_cond_queue.Goals as goal

pub leave-requires-clause-may : goal.leave-requires-clause-may
leave-requires-clause-may g c κs within = let x = c.requires.waits in λ there. may_leave_cond_queue c.args.me.now c.args.c.0 x.0 (λ law. let y = law.conditions in let z = c.requires.named in omega arith) c.requires.inside x.1 x.2 there

pub returns-clause-out : goal.returns-clause-out
returns-clause-out g c = λ e. c.leave.ensures.out e (λ n p. record p { queue = less n p.queue; left = less n p.left; stand = None; wait = recounted p.count p.wait }) (λ st me r me' word t. t)
