use Rattle.std.proofs.Common.{◌≡◌, length}
use Rattle.test_firefly.proofs.Crowds.{AreNumbered}
use Rattle.test_firefly.proofs.crowd.entries_of.Given as goal

abbrev pub invariant-loop-number : goal.invariant-loop-number
invariant-loop-number l = record {
  many : length l.entries.items ≡ l.number;
  named : AreNumbered l.entries.items;
}
