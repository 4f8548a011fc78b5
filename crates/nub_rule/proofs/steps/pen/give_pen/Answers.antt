use Rattle.std.proofs.Common.{rules, refl}
use Rattle.nub_rule.specs.declared.view.Pen.TheVariants.{No}
use Rattle.nub_rule.proofs.AtHand.{noted, fit_noted}
use Rattle.nub_rule.proofs.Penning.{give_pen_keeps}
use Rattle.nub_rule.proofs.steps.pen.give_pen.Goals as goal

pub swap-requires-clause-allowed : goal.swap-requires-clause-allowed
swap-requires-clause-allowed g c κs within = give_pen_keeps _ _ _ _ _ _ _ _ (search rules) (search rules)

pub invariant_of-me : goal.invariant_of-me
invariant_of-me g c = let i = c.me.invariant in fit_noted _ _ c.me.inside.number c.me.inside.hand c.me.inside.seat.me _ _ c.swap.ensures.0 c.swap.ensures.2.1 i refl refl refl refl refl

pub returns-clause-out : goal.returns-clause-out
returns-clause-out g c = noted (λ _ p. record p { pen = No }) _ _ _ _ _ c.me.inside.seat.me _ _ c.me.view_is c.swap.ensures.0 c.swap.ensures.2.1
