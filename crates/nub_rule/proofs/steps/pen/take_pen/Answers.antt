use Rattle.std.proofs.Common.{rules, refl}
use mathlib.Core.Logic.{dite}
use native.Mathlib.Decide.{ℕ_discrete}
use Rattle.nub_rule.specs.declared.view.Pen.TheVariants.{Taken}
use Rattle.nub_rule.proofs.AtHand.{noted, fit_noted}
use Rattle.nub_rule.proofs.Penning.{take_pen_keeps}
use Rattle.nub_rule.proofs.steps.pen.take_pen.Goals as goal

pub compare_exchange-requires-clause-allowed : goal.compare_exchange-requires-clause-allowed
compare_exchange-requires-clause-allowed g c κs within = take_pen_keeps _ _ _ _ _ _ _ _ (search rules) (search rules) (search rules)

pub invariant_of-me : goal.invariant_of-me
invariant_of-me g c = let i = c.me.invariant in let e = c.compare_exchange.ensures in dite (ℕ_discrete c.compare_exchange.result 0)
    (λ hit. fit_noted _ _ c.me.inside.number c.me.inside.hand c.me.inside.seat.me _ _ e.0 (e.2.0 hit) i refl refl refl refl refl)
    (λ miss. fit_noted _ _ c.me.inside.number c.me.inside.hand c.me.inside.seat.me _ _ e.0 (e.2.1 miss).1 i refl refl refl refl refl)

pub returns-clause-lost : goal.returns-clause-lost
returns-clause-lost g c = λ miss. let e = c.compare_exchange.ensures in ((e.2.1 miss).0, noted (λ _ p. p) _ _ _ _ _ c.me.inside.seat.me _ _ c.me.view_is e.0 (e.2.1 miss).1)

pub returns-clause-won : goal.returns-clause-won
returns-clause-won g c = λ hit. let e = c.compare_exchange.ensures in noted (λ _ p. record p { pen = Taken }) _ _ _ _ _ c.me.inside.seat.me _ _ c.me.view_is e.0 (e.2.0 hit)
