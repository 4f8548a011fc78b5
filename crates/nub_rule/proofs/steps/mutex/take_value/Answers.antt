use Rattle.std.proofs.Common.{◌∙◌, ap, sym, Some, None}
use mathlib.Core.Option.{some}
use lib.ListN.{get_elem?}
use Rattle.nub_rule.specs.declared.rule.Slot.TheVariants.{Value}
use Rattle.nub_rule.specs.Places.{value_at}
use Rattle.nub_rule.proofs.Naming.{mutex_low}
use Rattle.nub_rule.proofs.Handling.{same_slot}
use Rattle.nub_rule.proofs.Seen.{value_of}
use Rattle.nub_rule.proofs.AtHand.{ValueAtHand, value_at_hand, value_is, moved, set_at}
use Rattle.nub_rule.proofs.steps.mutex.take_value.Given.{Over}
use Rattle.nub_rule.proofs.steps.mutex.take_value.Goals.{After-bring}
use Rattle.nub_rule.proofs.steps.mutex.take_value.Goals as goal

pub bring-requires-clause-there : goal.bring-requires-clause-there
bring-requires-clause-there g c = (Value (Some c.requires.has.0), value_is _ _ _ _ _ _ c.me.inside.seat.me _ c.me.view_is c.requires.has.1)

-- the value stands first in the hand
at_hand : (g : Over) (c : After-bring g) → ValueAtHand c.me.inside.seat.me c.bring.new.seat.me c.bring.new.hand c.args.m.0 (Some c.requires.has.0)
at_hand g c = let b = c.bring.ensures in value_at_hand _ _ _ _ _ (value_is _ _ _ _ _ _ c.me.inside.seat.me _ c.me.view_is c.requires.has.1) b.same.2 b.keys b.distinct b.below b.hand b.first

pub slot_mut-requires-clause-first : goal.slot_mut-requires-clause-first
slot_mut-requires-clause-first g c = (Value (Some c.requires.has.0), (at_hand g (goal.at.slot_mut-requires-clause-first g c).After-bring).first)

pub take_from-requires : goal.take_from-requires
take_from-requires g c = (c.requires.has.0, same_slot (value_at c.args.m.0) _ _ _ _ c.slot_mut.ensures.value (at_hand g (goal.at.take_from-requires g c).After-bring).first)

pub invariant_of-me : goal.invariant_of-me
invariant_of-me g c = (moved (None) _ _ _ _ _ _ _ _ _ _ (mutex_low _ _ _ _ c.p.view_is c.p.invariant.laid_out c.p.invariant.lawful c.args.m.0 c.requires.named) c.me.invariant (at_hand g (goal.at.invariant_of-me g c).After-bring) c.bring.ensures.same.0 c.take_from.ensures.out).fits

pub returns-clause-value : goal.returns-clause-value
returns-clause-value g c = c.requires.has.1 ∙ ap (λ o. some (Some o)) (value_of _ _ (sym (same_slot (value_at c.args.m.0) _ _ _ _ c.slot_mut.ensures.value (at_hand g (goal.at.returns-clause-value g c).After-bring).first) ∙ c.take_from.ensures.value))

pub returns-clause-out : goal.returns-clause-out
returns-clause-out g c = (moved (None) _ _ _ _ _ _ _ _ _ _ (mutex_low _ _ _ _ c.p.view_is c.p.invariant.laid_out c.p.invariant.lawful c.args.m.0 c.requires.named) c.me.invariant (at_hand g (goal.at.returns-clause-out g c).After-bring) c.bring.ensures.same.0 c.take_from.ensures.out).sees _ _ _ _ c.me.view_is

pub returns-clause-is_out : goal.returns-clause-is_out
returns-clause-is_out g c = ap (λ k. get_elem? k.values c.args.m.0) ((moved (None) _ _ _ _ _ _ _ _ _ _ (mutex_low _ _ _ _ c.p.view_is c.p.invariant.laid_out c.p.invariant.lawful c.args.m.0 c.requires.named) c.me.invariant (at_hand g (goal.at.returns-clause-is_out g c).After-bring) c.bring.ensures.same.0 c.take_from.ensures.out).sees _ _ _ _ c.me.view_is) ∙ set_at c.args.me.now.values c.args.m.0 (Some None) _ c.requires.has.1
