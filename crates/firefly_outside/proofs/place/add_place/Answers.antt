use Rattle.std.proofs.Common.{subst, sym, ◌∙◌}
use Rattle.std.proofs.Math.Path.{fun_ext}
use Rattle.firefly_outside.specs.Trees.{Contents, Adds, Names}
use Rattle.firefly_outside.specs.MemTrees.{reported_by, node_of, IsWhole}
use Rattle.firefly_outside.proofs.TreeLemmas.{Adds-from_names, IsWhole-add, reported_by-reordered}
use Rattle.firefly_outside.proofs.place.add_place.Goals as goal

adds : (c : goal.After-put_place) → Adds (reported_by c.args.places.now) (reported_by c.put_place.new.places) c.args.path.now c.args.kind (node_of c.args.place)
adds c = Adds-from_names (reported_by c.args.places.now) (reported_by c.name_in_parent.new.places) (reported_by c.put_place.new.places) c.args.path.now c.args.kind (node_of c.args.place) c.requires.parent
    (let same = reported_by-reordered c.args.places.now c.reserve.new.self c.in_ok-reserve.ensures.entries in subst (λ (t : Contents). Names t (reported_by c.name_in_parent.new.places) c.args.path.now c.args.kind) same c.in_ok-name_in_parent.ensures.ok)
    (rw c.in_ok-key.ensures at c.put_place.ensures)

pub returns-clause-ok : goal.returns-clause-ok
returns-clause-ok c = adds c

pub returns-clause-whole : goal.returns-clause-whole
returns-clause-whole c = IsWhole-add (reported_by c.args.places.now) (reported_by c.put_place.new.places) c.args.path.now c.args.kind (node_of c.args.place) c.requires.whole c.requires.absent c.requires.parent c.requires.leaf (adds c)

pub returns-in_err-reserve-clause-whole : goal.returns-in_err-reserve-clause-whole
returns-in_err-reserve-clause-whole c = subst IsWhole (sym (reported_by-reordered c.args.places.now c.reserve.new.self c.in_err-reserve.ensures.entries)) c.requires.whole

pub returns-in_err-name_in_parent-clause-whole : goal.returns-in_err-name_in_parent-clause-whole
returns-in_err-name_in_parent-clause-whole c =
    subst IsWhole (sym (fun_ext c.in_err-name_in_parent.ensures.err ∙ reported_by-reordered c.args.places.now c.reserve.new.self c.in_ok-reserve.ensures.entries)) c.requires.whole
