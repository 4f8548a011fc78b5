use Rattle.std.proofs.Common.{◌≡◌}
use Rattle.walker.specs.Pile.{AreApart, AreKept, HasRead}
use Rattle.walker.proofs.read.read_files.Given as goal

abbrev pub invariant-loop-at : goal.invariant-loop-at
invariant-loop-at g l = record {
  tree : g.S.Tree.tree l.tree ≡ g.S.Tree.tree l.initial.tree;
  weak : g.S.Tree.may_fail l.tree ≡ g.S.Tree.may_fail l.initial.tree;
  count : g.S.Tree.faults l.tree ≡ g.S.Tree.faults l.initial.tree;
  apart : AreApart l.pile.items;
  read : HasRead (g.S.Tree.tree l.initial.tree) l.walked l.piece.paths (g.S.Tree.calls l.initial.tree) (g.S.Tree.calls l.tree) l.at (AreKept l.pile.items l.batch);
}
