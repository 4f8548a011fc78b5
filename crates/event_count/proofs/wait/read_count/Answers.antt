use Rattle.std.proofs.Common.{ℕ, ap, sym, subst}
use Rattle.nub_rule.specs.Known.{Makes}
use Rattle.nub_rule.specs.Plays.{enqueue_event}
use Rattle.nub.specs.Rest.{HasStored}
use Rattle.event_count.proofs.Steps.{begun_raised, made_raised}
use Rattle.event_count.proofs.wait.read_count.Goals as goal

pub read_raised-requires-clause-stored : goal.read_raised-requires-clause-stored
read_raised-requires-clause-stored g c κs within = subst (λ k. HasStored c.args.p.now.traced k) (sym c.raise_waits.ensures) c.requires.stored

pub returns-clause-event : goal.returns-clause-event
returns-clause-event g c = subst (λ (n : ℕ). Makes (enqueue_event c.args.alertable n c.args.m.0 c.args.c.0) c.args.me.now c.read_raised.new.me) (ap (λ k. k.number) c.raise_waits.ensures) (made_raised c.args.me.now c.raise_waits.new.me c.read_raised.new.me c.args.c.0 c.raise_waits.ensures _ c.read_raised.ensures.event)

pub returns-clause-begun : goal.returns-clause-begun
returns-clause-begun g c = begun_raised c.args.me.now c.raise_waits.new.me c.read_raised.new.me c.args.c.0 c.raise_waits.ensures _ c.read_raised.ensures.begun
