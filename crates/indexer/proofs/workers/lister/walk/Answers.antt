use Rattle.std.specs.Prelude.{IfSome}
use Rattle.index_findings.specs.Visits.{dirs_listed}
use Rattle.std.proofs.Common.{◌≡◌, ◌++◌, ◌∙◌, Bool, false, [], List, Option, None, refl, sym, subst}
use Rattle.firefly_outside.specs.declared.tree.Kind.TheVariants.{Dir}
use Rattle.word_index.specs.Index.{Index}
use Rattle.index_findings.specs.declared.findings.Fault.{Fault}
use Rattle.index_findings.specs.declared.findings.Visit.{Visit}
use Rattle.indexer.specs.Walks.{HasDone, fault_in, is_lost}
use Rattle.std.proofs.lemmas.Option.{same_Some}
use Rattle.index_rule.specs.Shares.{blank}
use Rattle.indexer.specs.States.{HasWalked}
use Rattle.indexer.proofs.WalkShares.{walked_left, walked_none}
use Rattle.indexer.proofs.Turning.{still_between}
use Rattle.indexer.proofs.WalkSteps.{done_along, done_none, lists_only}
use Rattle.indexer.proofs.workers.lister.walk.Goals as goal

pub loop-init : goal.loop-init
loop-init g c =
    let S = g.S.Tree in
    let tree = c.args.tree.now in
    record {
      share = λ u at. subst (λ (vs : List Visit). HasWalked c.args.p.now.world vs u) (sym c.new-visits.ensures.items)
          (subst (HasWalked c.args.p.now.world []) (same_Some blank u (sym c.requires.ready.1.share ∙ at)) (walked_none c.args.p.now.world));
      tree_stays = refl;
      weak_stays = refl;
      done = λ root. subst (λ (vs : List Visit). HasDone Dir (S.tree tree) root (S.may_fail tree) (S.faults tree) (S.faults tree) (S.calls tree) (S.calls tree) c.args.p.now 0 c.args.me.now c.args.me.now vs [] None false)
          (sym c.new-visits.ensures.items) (done_none Dir (S.tree tree) root (S.may_fail tree) (S.faults tree) (S.calls tree) c.args.p.now c.args.me.now);
    }

pub walk_once-requires-clause-between : goal.walk_once-requires-clause-between
walk_once-requires-clause-between g c κs within = still_between (g.S.Tree.tree c.args.tree.now) [] [] c.args.p.now c.args.me.now c.loop.me (c.requires.ready.0, blank, c.requires.ready.1) (c.loop.invariant.done []).back

pub loop-preserved : goal.loop-preserved
loop-preserved g c =
    let first = c.args.tree.now in
    let now = c.loop.tree in
    let then = c.walk_once.new.tree in
    let was = c.loop.invariant in
    let S = g.S.Tree in
    record {
      share = c.in-Ok.ensures.share;
      tree_stays = c.walk_once.ensures.done.0 ∙ was.tree_stays;
      weak_stays = c.walk_once.ensures.done.1 ∙ was.weak_stays;
      done = λ root. done_along Dir (S.tree first) root (S.may_fail first) (S.faults first) (S.calls first) c.args.p.now c.args.me.now (S.tree now) (S.may_fail now) was.tree_stays was.weak_stays
          (S.faults now) (S.faults then) (S.calls now) (S.calls then) 0 0 c.loop.me c.walk_once.new.me c.loop.visits.items c.walk_once.new.visits.items None None false false
          (was.done root) (c.in-Ok.ensures.done.2 root (S.faults first) (S.calls first) c.args.me.now);
    }

pub returns-in-Err : goal.returns-in-Err
returns-in-Err g c = λ root.
    let first = c.args.tree.now in
    let now = c.loop.tree in
    let then = c.walk_once.new.tree in
    let was = c.loop.invariant in
    let S = g.S.Tree in
    let end = c.in-Err.end in
    let parts = c.parts-fault.ensures in
    let all = subst (λ (ps : List Index). HasDone Dir (S.tree first) root (S.may_fail first) (S.faults first) (S.faults then) (S.calls first) (S.calls then) c.args.p.now 0 c.args.me.now c.walk_once.new.me c.walk_once.new.visits.items ps (fault_in end) (is_lost end))
    (sym c.new.ensures.items)
    (done_along Dir (S.tree first) root (S.may_fail first) (S.faults first) (S.calls first) c.args.p.now c.args.me.now (S.tree now) (S.may_fail now) was.tree_stays was.weak_stays
    (S.faults now) (S.faults then) (S.calls now) (S.calls then) 0 0 c.loop.me c.walk_once.new.me c.loop.visits.items c.walk_once.new.visits.items None (fault_in end) false (is_lost end)
    (was.done root) (c.in-Err.ensures.done.2 root (S.faults first) (S.calls first) c.args.me.now)) in (
      c.walk_once.ensures.done.0 ∙ was.tree_stays,
      c.walk_once.ensures.done.1 ∙ was.weak_stays,
      subst (λ (o : Option Fault). HasDone Dir (S.tree first) root (S.may_fail first) (S.faults first) (S.faults then) (S.calls first) (S.calls then) c.args.p.now 0 c.args.me.now c.walk_once.new.me c.walk_once.new.visits.items c.new.result.items o c.parts-fault.result.1) (sym parts.fault)
          (subst (λ (b : Bool). HasDone Dir (S.tree first) root (S.may_fail first) (S.faults first) (S.faults then) (S.calls first) (S.calls then) c.args.p.now 0 c.args.me.now c.walk_once.new.me c.walk_once.new.visits.items c.new.result.items (fault_in end) b) (sym parts.lost) all),
      (
        [],
        (λ u at. walked_left c.args.p.now.world _ u c.new.ensures.items (c.walk_once.ensures.share u at)),
        subst (λ (b : Bool). IfSome (S.tree first) (λ t. ((S.calls then).files_read ≡ (S.calls first).files_read ++ []) × (b ≡ false → (S.calls then).listed ≡ (S.calls first).listed ++ dirs_listed c.walk_once.new.visits.items))) (sym parts.lost)
            (lists_only (S.tree first) (S.may_fail first) (S.calls first) (S.calls then) c.walk_once.new.visits.items (fault_in end) (is_lost end) 0 c.args.me.now c.walk_once.new.me all.reported),
      ),
    )

pub walk_once-requires-clause-share : goal.walk_once-requires-clause-share
walk_once-requires-clause-share g c κs within = c.loop.invariant.share
