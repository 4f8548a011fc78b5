use Rattle.std.proofs.Common.{◌≡◌, ◌≤◌, ◌+◌, ◌++◌, ℕ, map, length, vec_capacity, []}
use Rattle.nub_rule.specs.declared.view.Kind.TheVariants.{Collector}
use Rattle.nub_rule.specs.Forks.{MayComeBack, in_order, with_number}
use Rattle.nub_rule.specs.Items.{Each}
use Rattle.nub_rule.proofs.forked.gather_forked.Given as goal

abbrev pub invariant-loop-number : goal.invariant-loop-number
invariant-loop-number g l = record {
  of : l.all.seat.table_id ≡ l.initial.all.seat.table_id;
  kind : l.all.seat.me.0.kind ≡ Collector;
  left : (n : ℕ) → l.number ≤ n → with_number n (l.ended.items ++ l.unborn.items) ≡ with_number n (l.fn.ended.items ++ l.fn.unborn.items);
  count : length (in_order l.number (l.fn.ended.items ++ l.fn.unborn.items)) ≡ l.number;
  idle : Each (λ _ t. MayComeBack t) (in_order l.number (l.fn.ended.items ++ l.fn.unborn.items));
  back : l.all.seat.me.0.back ≡ map (λ t. t.part) (in_order l.number (l.fn.ended.items ++ l.fn.unborn.items));
  entries : map (λ s. s.entries.items) l.all.stored.items ≡ map (λ t. t.entries) (in_order l.number (l.fn.ended.items ++ l.fn.unborn.items));
  losses : map (λ s. s.lost) l.all.stored.items ≡ map (λ t. t.lost) (in_order l.number (l.fn.ended.items ++ l.fn.unborn.items));
  many : length l.all.stored.items ≡ l.number;
  shelf : l.threads ≤ vec_capacity l.all.stored;
  empty : l.all.room.items ≡ [];
  room : 1 ≤ l.number → l.shared.table_id.slots ≤ 192 + vec_capacity l.all.room;
}
