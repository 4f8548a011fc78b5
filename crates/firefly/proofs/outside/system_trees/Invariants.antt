use Rattle.std.proofs.Common.{◌≡◌, length, None}
use Rattle.firefly.specs.Looks.{AllShow, NoneFailed, looks_of}
use Rattle.firefly.specs.Looks.{unseen}
use Rattle.firefly.proofs.outside.system_trees.Given as goal

abbrev pub invariant-loop-made : goal.invariant-loop-made
invariant-loop-made g l = record {
  many : length l.trees.items ≡ l.made;
  reported : AllShow None (looks_of (λ t. unseen t.faults) l.trees.items);
  fresh : NoneFailed (looks_of (λ t. unseen t.faults) l.trees.items);
}
