use Rattle.std.proofs.Common.{ℕ, ap}
use Rattle.nub_rule.specs.Plays.{alert_p_raise_event}
use Rattle.nub.proofs.Making.{makes_by}
use Rattle.alert_wait.proofs.Raises.{raised_last, with_alerted}
use Rattle.alert_wait.proofs.sem.end_alerted.Goals as goal

pub returns-then-take_at_last-clause-event : goal.returns-then-take_at_last-clause-event
returns-then-take_at_last-clause-event g c = c.take_at_last.ensures.event c.if-take_at_last.true

pub returns-then-take_at_last-clause-rest : goal.returns-then-take_at_last-clause-rest
returns-then-take_at_last-clause-rest g c = with_alerted c.take_at_last.new.me _ (c.take_at_last.ensures.won c.if-take_at_last.true)

pub returns-clause-event : goal.returns-clause-event
returns-clause-event g c =
    let lost = c.take_at_last.ensures.lost c.if-take_at_last.false in
    makes_by (λ (n : ℕ). alert_p_raise_event n c.args.s.0) c.args.me.now c.take_at_last.new.me c.raise.new.me (ap (λ k. k.number) lost) (ap (λ k. k.version) lost) (ap (λ k. k.seen) lost) (ap (λ k. k.mine) lost) (ap (λ k. k.places) lost) (ap (λ k. k.pen) lost) c.raise.ensures.event

pub returns-clause-rest : goal.returns-clause-rest
returns-clause-rest g c = raised_last c.args.me.now c.take_at_last.new.me c.raise.new.me (c.take_at_last.ensures.lost c.if-take_at_last.false) c.raise.ensures.rest
