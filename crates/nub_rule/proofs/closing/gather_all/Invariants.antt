use Rattle.std.proofs.Common.{◌≡◌, ◌≤◌, ◌+◌, ◌++◌, [], map, length, vec_capacity}
use Rattle.nub_rule.specs.declared.view.Kind.TheVariants.{Collector}
use Rattle.nub_rule.proofs.closing.gather_all.Given as goal

abbrev pub invariant-loop-thread : goal.invariant-loop-thread
invariant-loop-thread g l = record {
  of : l.all.seat.table_id ≡ l.initial.all.seat.table_id;
  kind : l.all.seat.me.0.kind ≡ Collector;
  back : l.all.seat.me.0.back ≡ map (λ t. t.part) l.yielded;
  all : l.fn.threads.items ≡ l.yielded ++ l.thread-iterator.rest.items;
  entries : map (λ s. s.entries.items) l.all.stored.items ≡ map (λ t. t.entries) l.yielded;
  losses : map (λ s. s.lost) l.all.stored.items ≡ map (λ t. t.lost) l.yielded;
  count : length l.all.stored.items ≡ length l.yielded;
  shelf : length l.fn.threads.items ≤ vec_capacity l.all.stored;
  empty : l.all.room.items ≡ [];
  room : 1 ≤ length l.yielded → l.shared.table_id.slots ≤ 192 + vec_capacity l.all.room;
}
