use Rattle.std.proofs.Common.{◌∷◌, None}
use Rattle.nub_rule.specs.Objects.{object_of}
use Rattle.nub_rule.specs.Plays.{less}
use Rattle.nub_rule.proofs.Requeueing.{may_take_out}
use Rattle.nub_rule.proofs.steps.queue.take_out.Goals as goal

pub leave-requires-clause-may : goal.leave-requires-clause-may
leave-requires-clause-may g c κs within = λ there. may_take_out c.args.me.now c.args.at c.requires.clear.0 c.requires.gate c.requires.named c.requires.inside there

pub returns-clause-out : goal.returns-clause-out
returns-clause-out g c = λ e. c.leave.ensures.out e (λ n p. record p { queue = less n p.queue; left = less n p.left; stand = None; turns = object_of c.args.at ∷ p.turns }) (λ st me r me' word t. t (object_of c.args.at) word)
