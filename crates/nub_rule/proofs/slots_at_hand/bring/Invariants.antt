use Rattle.std.proofs.Common.{◌≡◌, ℕ, map}
use Rattle.nub_rule.specs.Slots.{find, place, IsDistinct, Below}
use Rattle.nub_rule.proofs.slots_at_hand.bring.Given as goal

abbrev pub invariant-loop-hand : goal.invariant-loop-hand
invariant-loop-hand g l = record {
  keys : map (λ x. x.0) l.seat.me.1 ≡ l.hand;
  distinct : IsDistinct l.seat.me.1;
  below : Below 256 l.seat.me.1;
  same : (l.seat.table_id ≡ l.initial.seat.table_id) × (l.seat.id ≡ l.initial.seat.id) × (l.seat.me.0 ≡ l.initial.seat.me.0);
  hand : (k : ℕ) → find k l.seat.me.1 ≡ find k l.initial.seat.me.1;
}

abbrev pub decreases-loop-hand : goal.decreases-loop-hand
decreases-loop-hand g l = place l.slot l.seat.me.1
