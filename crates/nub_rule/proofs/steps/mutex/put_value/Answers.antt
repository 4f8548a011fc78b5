use Rattle.std.proofs.Common.{◌∙◌, ap, Some, None}
use lib.ListN.{get_elem?}
use Rattle.nub_rule.specs.declared.rule.Slot.TheVariants.{Value}
use Rattle.nub_rule.specs.Places.{value_at}
use Rattle.nub_rule.proofs.Naming.{mutex_low}
use Rattle.nub_rule.proofs.Handling.{same_slot}
use Rattle.nub_rule.proofs.AtHand.{ValueAtHand, value_at_hand, value_is, moved, set_at}
use Rattle.nub_rule.proofs.steps.mutex.put_value.Given.{Over}
use Rattle.nub_rule.proofs.steps.mutex.put_value.Goals.{After-bring}
use Rattle.nub_rule.proofs.steps.mutex.put_value.Goals as goal

pub bring-requires-clause-there : goal.bring-requires-clause-there
bring-requires-clause-there g c = (Value (None), value_is _ _ _ _ _ _ c.me.inside.seat.me _ c.me.view_is c.requires.out)

-- the value stands first in the hand
at_hand : (g : Over) (c : After-bring g) → ValueAtHand c.me.inside.seat.me c.bring.new.seat.me c.bring.new.hand c.args.m.0 (None)
at_hand g c = let b = c.bring.ensures in value_at_hand _ _ _ _ _ (value_is _ _ _ _ _ _ c.me.inside.seat.me _ c.me.view_is c.requires.out) b.same.2 b.keys b.distinct b.below b.hand b.first

pub slot_mut-requires-clause-first : goal.slot_mut-requires-clause-first
slot_mut-requires-clause-first g c = (Value (None), (at_hand g (goal.at.slot_mut-requires-clause-first g c).After-bring).first)

pub put_into-requires : goal.put_into-requires
put_into-requires g c = same_slot (value_at c.args.m.0) _ _ _ _ c.slot_mut.ensures.value (at_hand g (goal.at.put_into-requires g c).After-bring).first

pub invariant_of-me : goal.invariant_of-me
invariant_of-me g c = (moved (Some c.args.value) _ _ _ _ _ _ _ _ _ _ (mutex_low _ _ _ _ c.p.view_is c.p.invariant.laid_out c.p.invariant.lawful c.args.m.0 c.requires.named) c.me.invariant (at_hand g (goal.at.invariant_of-me g c).After-bring) c.bring.ensures.same.0 c.put_into.ensures).fits

pub returns-clause-value : goal.returns-clause-value
returns-clause-value g c = (moved (Some c.args.value) _ _ _ _ _ _ _ _ _ _ (mutex_low _ _ _ _ c.p.view_is c.p.invariant.laid_out c.p.invariant.lawful c.args.m.0 c.requires.named) c.me.invariant (at_hand g (goal.at.returns-clause-value g c).After-bring) c.bring.ensures.same.0 c.put_into.ensures).sees _ _ _ _ c.me.view_is

pub returns-clause-is_in : goal.returns-clause-is_in
returns-clause-is_in g c = ap (λ k. get_elem? k.values c.args.m.0) ((moved (Some c.args.value) _ _ _ _ _ _ _ _ _ _ (mutex_low _ _ _ _ c.p.view_is c.p.invariant.laid_out c.p.invariant.lawful c.args.m.0 c.requires.named) c.me.invariant (at_hand g (goal.at.returns-clause-is_in g c).After-bring) c.bring.ensures.same.0 c.put_into.ensures).sees _ _ _ _ c.me.view_is) ∙ set_at c.args.me.now.values c.args.m.0 (Some (Some c.args.value)) _ c.requires.out
