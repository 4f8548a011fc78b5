use Rattle.std.proofs.Common.{◌≡◌, ◌-◌}
use Rattle.std.specs.Prelude.{IfSome}
use Rattle.walker.specs.Progress.{IsWithinLimits, Grows, IsListedBelow}
use Rattle.walker.specs.Closing.{most_dirs}
use Rattle.walker.proofs.Steps.{IsGoing}
use Rattle.walker.proofs.close.list_rest.Given as goal

abbrev pub invariant-loop-at : goal.invariant-loop-at
invariant-loop-at g l = record {
  tree : g.S.Tree.tree l.tree ≡ g.S.Tree.tree l.initial.tree;
  weak : g.S.Tree.may_fail l.tree ≡ g.S.Tree.may_fail l.initial.tree;
  count : g.S.Tree.faults l.tree ≡ g.S.Tree.faults l.initial.tree;
  grows : Grows l.initial.walked l.walked;
  limits : IsWithinLimits l.walked l.stop_after;
  below : IsListedBelow l.walked l.at;
  reported : IfSome (g.S.Tree.tree l.initial.tree) (IsGoing l.initial.walked l.walked (g.S.Tree.calls l.initial.tree) (g.S.Tree.calls l.tree));
}

abbrev pub decreases-loop-at : goal.decreases-loop-at
decreases-loop-at g l = most_dirs - l.at
