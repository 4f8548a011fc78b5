use Rattle.std.proofs.Common.{◌≡◌, [], None, false}
use Rattle.firefly_outside.specs.Trees.{Path}
use Rattle.firefly_outside.specs.declared.tree.Kind.TheVariants.{Dir}
use Rattle.indexer.specs.Gets.{OfShare}
use Rattle.indexer.specs.States.{HasWalked}
use Rattle.indexer.specs.Walks.{HasDone}
use Rattle.indexer.proofs.workers.lister.walk.Given as goal

abbrev pub invariant-loop : goal.invariant-loop
invariant-loop g l =
    record {
      share : OfShare l.me (HasWalked l.p.world l.visits.items);
      tree_stays : g.S.Tree.tree l.tree ≡ g.S.Tree.tree l.fn.tree;
      weak_stays : g.S.Tree.may_fail l.tree ≡ g.S.Tree.may_fail l.fn.tree;
      done : (root : Path) → HasDone Dir (g.S.Tree.tree l.fn.tree) root (g.S.Tree.may_fail l.fn.tree) (g.S.Tree.faults l.fn.tree) (g.S.Tree.faults l.tree) (g.S.Tree.calls l.fn.tree) (g.S.Tree.calls l.tree) l.p 0 l.fn.me l.me l.visits.items [] None false;
    }
