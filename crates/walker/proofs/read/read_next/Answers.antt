use Rattle.std.proofs.Common.{refl, ◌≡◌, ◌∙◌, ap}
use Rattle.firefly_outside.specs.Trees.{child}
use Rattle.walker.proofs.ReadLemmas.{reported_read_fault}
use Rattle.walker.proofs.read.read_next.Goals as goal

pub returns-in-Err-Failed-clause-reported : goal.returns-in-Err-Failed-clause-reported
returns-in-Err-Failed-clause-reported g c =
    let path : c.in-Ok.path ≡ child c.args.walked.now.root c.args.name.now = c.in-Ok.ensures ∙ ap (λ r. child r c.args.name.now) c.root.ensures in
    reported_read_fault (g.S.Tree.tree c.args.tree.now) (g.S.Tree.may_fail c.args.tree.now) c.args.walked.now.root c.args.name.now c.in-Ok.path c.as_str.result.now (g.S.Tree.calls c.args.tree.now) (g.S.Tree.calls c.read.new.self)
    (c.as_str.ensures ∙ path) path (rw c.in-Err-Failed.field-0-is at c.in-Err-Failed.ensures.reported)

pub returns-in_default-clause-stays : goal.returns-in_default-clause-stays
returns-in_default-clause-stays g c = record { tree = refl; weak = refl; count = refl }

pub returns-in-Ok-read-clause-stays : goal.returns-in-Ok-read-clause-stays
returns-in-Ok-read-clause-stays g c = record { tree = c.read.ensures.tree_stays; weak = c.read.ensures.weak_stays; count = c.in-Ok-read.ensures.count }

pub returns-in-Err-Memory-clause-stays : goal.returns-in-Err-Memory-clause-stays
returns-in-Err-Memory-clause-stays g c = record { tree = c.read.ensures.tree_stays; weak = c.read.ensures.weak_stays; count = rw c.in-Err-Memory.field-0-is at c.in-Err-Memory.ensures.count }

pub returns-in-Err-Failed-clause-stays : goal.returns-in-Err-Failed-clause-stays
returns-in-Err-Failed-clause-stays g c = record { tree = c.read.ensures.tree_stays; weak = c.read.ensures.weak_stays; count = rw c.in-Err-Failed.field-0-is at c.in-Err-Failed.ensures.count }
