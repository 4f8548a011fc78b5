use Rattle.std.proofs.Common.{rules, refl}
use Rattle.nub_rule.specs.declared.view.Pen.TheVariants.{Written}
use Rattle.nub_rule.proofs.AtHand.{noted, fit_noted}
use Rattle.nub_rule.proofs.Penning.{write_number_keeps}
use Rattle.nub_rule.proofs.steps.pen.write_number.Goals as goal

pub store-requires-clause-allowed : goal.store-requires-clause-allowed
store-requires-clause-allowed g c κs within = write_number_keeps _ _ _ _ _ _ _ c.requires.made.0 _ _ (search rules) (search rules) (search rules)

pub invariant_of-me : goal.invariant_of-me
invariant_of-me g c = let i = c.me.invariant in fit_noted _ _ c.me.inside.number c.me.inside.hand c.me.inside.seat.me _ _ c.store.ensures.0 c.store.ensures.2 i refl refl refl refl refl

pub returns : goal.returns
returns g c = noted (λ _ p. record p { pen = Written }) _ _ _ _ _ c.me.inside.seat.me _ _ c.me.view_is c.store.ensures.0 c.store.ensures.2
