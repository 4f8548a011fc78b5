use Rattle.std.proofs.Common.{◌≡◌, ◌≤◌, ◌++◌, [], length, vec_capacity}
use Rattle.nub_rule.specs.declared.view.Kind.TheVariants.{Root}
use Rattle.nub_rule.specs.Items.{Each}
use Rattle.nub_rule.specs.Ends.{first_known}
use Rattle.nub_rule.proofs.opening.cut_all.Given as goal

abbrev pub invariant-loop-parker : goal.invariant-loop-parker
invariant-loop-parker g l = record {
  of : l.root.table_id ≡ l.initial.root.table_id;
  kind : l.root.me.0.kind ≡ Root;
  next : l.root.me.0.next ≡ l.number;
  world : l.root.me.0.world ≡ l.initial.root.me.0.world;
  version : l.root.me.0.part.version ≡ l.initial.root.me.0.part.version;
  all : l.fn.parkers.items ≡ l.yielded ++ l.parker-iterator.rest.items;
  read : length l.yielded ≡ l.number;
  count : length l.threads.items ≡ l.number;
  wide : l.p.layout.threads ≤ vec_capacity l.threads;
  empty : l.room.items ≡ [];
  room : l.number ≡ 0 → l.p.layout.mutexes ≤ vec_capacity l.room;
  threads : Each (λ n t. t ≡ first_known l.p.table_id l.p.layout.version l.p.world g.U.Uses.begin n) l.threads.items;
}
