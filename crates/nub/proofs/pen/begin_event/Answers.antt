use Rattle.std.proofs.Common.{ap, ◌∙◌}
use Rattle.nub.proofs.Knowing.{only_pen}
use Rattle.nub.proofs.pen.begin_event.Goals as goal

pub returns-then-traced-clause-traced : goal.returns-then-traced-clause-traced
returns-then-traced-clause-traced g c = (ap (λ k. k.life) c.begin_traced.ensures.read ∙ c.requires.live, λ traced. (c.begin_traced.new.me.next, ap (λ k. k.pen) c.begin_traced.ensures.read, c.begin_traced.ensures.below))

pub returns-then-traced-clause-pen : goal.returns-then-traced-clause-pen
returns-then-traced-clause-pen g c = only_pen c.args.me.now c.begin_traced.new.me c.begin_traced.ensures.read
