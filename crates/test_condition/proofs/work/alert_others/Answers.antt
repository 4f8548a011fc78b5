use Rattle.test_condition.proofs.Freeing.{free_done}
use Rattle.test_condition.proofs.work.alert_others.Goals as goal

pub alert-requires-clause-rest : goal.alert-requires-clause-rest
alert-requires-clause-rest g c κs within = c.loop-other.invariant.idle.rest

pub loop-other-preserved : goal.loop-other-preserved
loop-other-preserved g c = let free = c.loop-other.invariant in record { share = free.share; idle = c.alert.ensures.idle c.args.me.number free.share free.idle }

pub returns : goal.returns
returns g c = free_done c.args.pkg.now c.args.me.number c.loop-other.me c.loop-other.invariant
