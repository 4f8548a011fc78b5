use Rattle.firefly_outside.specs.MemTrees.{reported_by}
use Rattle.firefly_outside.proofs.TreeLemmas.{Names-from_parent, Names-from_none}
use Rattle.firefly_outside.proofs.place.name_in_parent.Goals as goal

pub returns-in_ok-name_child-clause-ok : goal.returns-in_ok-name_child-clause-ok
returns-in_ok-name_child-clause-ok c = Names-from_parent (reported_by c.args.places.now) (reported_by c.name_child.new.places) c.args.path.now c.in_ok-dir.dir c.in_ok-name.name c.args.kind (rw (c.in_ok-dir.ensures, c.in_ok-name.ensures) c.in-Some.ensures.0) (rw c.in_ok-name.ensures c.in-Some.ensures.1) c.in_ok-name_child.ensures.ok

pub returns-in_default-clause-ok : goal.returns-in_default-clause-ok
returns-in_default-clause-ok c = Names-from_none (reported_by c.args.places.now) c.args.path.now c.args.kind c.in_default.ensures
