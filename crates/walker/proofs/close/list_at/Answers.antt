use Rattle.std.proofs.Common.{refl, ◌≡◌, subst, sym, false, slice_get}
use Rattle.std.specs.Prelude.{Some}
use Rattle.firefly_outside.specs.Trees.{Path}
use Rattle.walker.proofs.Steps.{below_same, unlisted_from, reported_unread, OnOk-map}
use Rattle.walker.proofs.close.list_at.Goals as goal

pub returns-in_default-clause-below : goal.returns-in_default-clause-below
returns-in_default-clause-below g c = below_same c.args.walked.now c.args.at c.requires.within c.in_default.ensures

pub list_next-requires-after_bounds : goal.list_next-requires-after_bounds
list_next-requires-after_bounds g c = λ κs b. unlisted_from c.args.walked.now c.args.at c.in-Ok.dir (subst (λ (p : Path). slice_get c.args.walked.now.dirs c.args.at ≡ Some (p, false)) (sym c.in-Ok.ensures) c.in-Some.ensures)

pub returns-clause-below : goal.returns-clause-below
returns-clause-below g c = OnOk-map c.list_next.result _ _
    (λ f below. f c.args.at (subst (λ (p : Path). slice_get c.args.walked.now.dirs c.args.at ≡ Some (p, false)) (sym c.in-Ok.ensures) c.in-Some.ensures) below)
    c.list_next.ensures.below

pub returns-in_default-of-clause-reported : goal.returns-in_default-of-clause-reported
returns-in_default-of-clause-reported g c = reported_unread (g.S.Tree.tree c.args.tree.now) c.args.walked.now c.in-Some.dir.now (g.S.Tree.may_fail c.args.tree.now) (g.S.Tree.calls c.args.tree.now) (unlisted_from c.args.walked.now c.args.at c.in-Some.dir.now c.in-Some.ensures)

pub returns-in_default-clause-stays : goal.returns-in_default-clause-stays
returns-in_default-clause-stays g c = record { tree = refl; weak = refl; count = refl }

pub returns-in_default-of-clause-stays : goal.returns-in_default-of-clause-stays
returns-in_default-of-clause-stays g c = record { tree = refl; weak = refl; count = refl }
