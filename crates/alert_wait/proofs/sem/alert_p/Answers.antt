use Rattle.std.proofs.Common.{ap}
use Rattle.alert_wait.specs.Outcomes.{p_end}
use Rattle.nub.proofs.Adding.{adds_one}
use Rattle.alert_wait.proofs.sem.alert_p.Goals as goal

pub returns-clause-event : goal.returns-clause-event
returns-clause-event g c = adds_one (p_end c.take_or_raise.result c.args.me.now.number c.args.s.0) c.args.me.now c.take_or_raise.new.me c.take_or_raise.ensures.event (ap (λ k. k.number) c.take_or_raise.ensures.rest) (ap (λ k. k.version) c.take_or_raise.ensures.rest)

pub returns-clause-held : goal.returns-clause-held
returns-clause-held g c = ap (λ k. k.held) c.take_or_raise.ensures.rest

pub returns-clause-share : goal.returns-clause-share
returns-clause-share g c = ap (λ k. k.share) c.take_or_raise.ensures.rest
