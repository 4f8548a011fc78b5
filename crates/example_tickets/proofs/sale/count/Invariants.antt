use Rattle.std.proofs.Common.{◌≡◌, ◌≤◌, ◌*◌, sum, take}
use Rattle.example_tickets.proofs.sale.count.Given as goal

abbrev pub invariant-loop-one : goal.invariant-loop-one
invariant-loop-one l = record {
  sum : l.all ≡ sum (take l.one-index l.sold);
  small : l.all ≤ l.one-index * 4294967295;
}
