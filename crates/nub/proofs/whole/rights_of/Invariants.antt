use Rattle.std.proofs.Common.{◌≡◌, ◌≤◌, ◌++◌, length, vec_capacity}
use Rattle.nub.proofs.whole.rights_of.Given as goal

abbrev pub invariant-loop-thread : goal.invariant-loop-thread
invariant-loop-thread g l = record {
  all : l.fn.threads.items ≡ l.yielded ++ l.thread-iterator.rest.items;
  items : l.rights.items ≡ l.yielded;
  room : length l.fn.threads.items ≤ vec_capacity l.rights;
}
