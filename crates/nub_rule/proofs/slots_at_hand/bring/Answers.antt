use Rattle.std.proofs.Common.{rules, ap, sym, ◌∙◌, subst}
use Rattle.nub_rule.specs.Slots.{find, IsDistinct, Below}
use Rattle.nub_rule.proofs.Turns.{nearer, keys_turned, turns_find, turns_distinct, turns_below}
use Rattle.nub_rule.proofs.Room.{hand_fits}
use Rattle.nub_rule.proofs.slots_at_hand.bring.Goals as goal

pub loop-hand-smaller : goal.loop-hand-smaller
loop-hand-smaller g c = let i = c.loop-hand.invariant in let t = c.turn-in-loop-hand.ensures.2 in let x = c.requires.there in
    nearer c.args.slot c.loop-hand.seat.me.1 c.turn-in-loop-hand.new.self.me.1 x.0 c.loop-hand.hand (ap (λ z. z.1) t) i.keys (search rules) (i.hand c.args.slot ∙ x.1)

pub loop-hand-preserved : goal.loop-hand-preserved
loop-hand-preserved g c = let i = c.loop-hand.invariant in let t = c.turn-in-loop-hand.ensures.2 in let e = ap (λ z. z.1) t in record {
  keys = keys_turned c.loop-hand.seat.me.1 c.turn-in-loop-hand.new.self.me.1 c.loop-hand.hand e i.keys ∙ sym c.turn.ensures;
  distinct = subst IsDistinct (sym e) (turns_distinct c.loop-hand.seat.me.1 i.distinct);
  below = subst (λ l. Below 256 l) (sym e) (turns_below 256 c.loop-hand.seat.me.1 i.below);
  same = search rules;
  hand = λ k. ap (find k) e ∙ (turns_find k c.loop-hand.seat.me.1 i.distinct ∙ i.hand k);
}

pub turn-requires : goal.turn-requires
turn-requires g c = let i = c.loop-hand.invariant in hand_fits 256 c.loop-hand.seat.me.1 c.loop-hand.hand i.distinct i.below i.keys
