use Rattle.std.proofs.Common.{rules, ◌≡◌, refl}
use Rattle.nub_rule.specs.declared.view.Pen.TheVariants.{Read}
use Rattle.nub_rule.specs.Known.{known_as, space_of}
use Rattle.nub_rule.proofs.Seen.{as_known}
use Rattle.nub_rule.proofs.AtHand.{fit_noted}
use Rattle.nub_rule.proofs.Penning.{read_number_keeps}
use Rattle.nub_rule.proofs.steps.pen.read_number.Goals as goal

pub load-found-requires-clause-allowed : goal.load-found-requires-clause-allowed
load-found-requires-clause-allowed g c κs within = read_number_keeps _ _ _ _ _ _ _ _ (search rules) (search rules)

pub invariant_of-me : goal.invariant_of-me
invariant_of-me g c = let i = c.me.invariant in fit_noted _ _ c.me.inside.number c.me.inside.hand c.me.inside.seat.me _ _ c.load-found.ensures.0 c.load-found.ensures.2 i refl refl refl refl refl

pub returns : goal.returns
returns g c = let n = c.load-found.result in as_known (λ z m a. known_as z c.me.inside.number m c.me.inside.entries.items (space_of c.me.inside.entries c.me.inside.lost) n ≡ record a { part = record a.part { pen = Read n }; next = n }) _ _ _ _ _ c.me.inside.seat.me _ _ _ c.me.view_is c.load-found.ensures.0 c.load-found.ensures.2 refl
