use Rattle.std.proofs.Common.{ℕ, refl, ap, subst, ◌∙◌}
use Rattle.nub_rule.specs.declared.view.WaitBit.TheVariants.{Quiet}
use Rattle.nub_rule.specs.Known.{Makes}
use Rattle.nub_rule.specs.Plays.{quieted}
use Rattle.alert_wait.specs.Outcomes.{wait_end}
use Rattle.alert_wait.specs.declared.outcome.Outcome.TheVariants.{Returned}
use Rattle.nub.proofs.Making.{makes_by}
use Rattle.alert_wait.proofs.Raises.{ended_returned}
use Rattle.alert_wait.proofs.wait.end_wait.Goals as goal

pub raise-requires-clause-waits : goal.raise-requires-clause-waits
raise-requires-clause-waits g c κs within = let x = c.requires.waits in (record x.0 { bit = Quiet }, ap (λ k. k.wait) c.take_quiet.ensures.rest ∙ ap quieted x.1, x.2, x.3, x.4, refl)

pub returns-then-returns-clause-event : goal.returns-then-returns-clause-event
returns-then-returns-clause-event g c =
    let l = c.lower_waits.ensures in
    makes_by (λ (n : ℕ). wait_end Returned n c.args.m.0 c.args.c.0) c.args.me.now c.lower_waits.new.me c.take.new.me (ap (λ k. k.number) l) (ap (λ k. k.version) l) (ap (λ k. k.seen) l) (ap (λ k. k.mine) l) (ap (λ k. k.places) l) (ap (λ k. k.pen) l)
    (subst (λ (n : ℕ). Makes (wait_end Returned n c.args.m.0 c.args.c.0) c.lower_waits.new.me c.take.new.me) c.number.ensures c.take.ensures.event)

pub returns-then-returns-clause-rest : goal.returns-then-returns-clause-rest
returns-then-returns-clause-rest g c = ended_returned c.args.me.now c.lower_waits.new.me c.take.new.me c.lower_waits.ensures c.take.ensures.rest
