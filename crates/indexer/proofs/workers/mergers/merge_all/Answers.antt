use Rattle.std.proofs.Common.{[], Bool, List, None, Ok, false, true, sym, ap, subst, ◌∙◌}
use Rattle.std.proofs.lemmas.Option.{same_Some}
use Rattle.word_index.specs.Index.{Index}
use Rattle.index_rule.specs.Shares.{blank}
use Rattle.indexer.specs.Gets.{OfShare}
use Rattle.indexer.specs.States.{HasMerged, merge_lost}
use Rattle.indexer.specs.Turns.{HasCalled}
use Rattle.indexer.proofs.MergeShares.{merged_left, merged_none, merged_rest}
use Rattle.indexer.proofs.Turning.{called_as, called_none, still_between}
use Rattle.indexer.proofs.workers.mergers.merge_all.Goals as goal

pub loop-init : goal.loop-init
loop-init g c =
    let p = c.args.p.now in
    record {
      called = λ o root. subst (λ (ps : List Index). HasCalled o root ps p 0 0 c.args.me.now c.args.me.now) (sym c.new-kept.ensures.items) (called_none o root p 0 c.args.me.now);
      share = λ u at. subst (λ (ps : List Index). HasMerged p.world ps false u) (sym c.new-kept.ensures.items) (subst (HasMerged p.world [] false) (same_Some blank u (sym c.requires.ready.1.share ∙ at)) (merged_none p.world));
    }

pub merge_once-requires-clause-between : goal.merge_once-requires-clause-between
merge_once-requires-clause-between g c = still_between None [] c.loop.kept.items c.args.p.now c.args.me.now c.loop.me (c.requires.ready.0, blank, c.requires.ready.1) (c.loop.invariant.called None []).back

pub merge_once-requires-clause-share : goal.merge_once-requires-clause-share
merge_once-requires-clause-share g c = c.loop.invariant.share

pub loop-preserved : goal.loop-preserved
loop-preserved g c = record {
  called = λ o root. c.merge_once.ensures.called o root c.args.me.now (c.loop.invariant.called o root);
  share = subst (λ (b : Bool). OfShare c.merge_once.new.me (HasMerged c.args.p.now.world c.merge_once.new.kept.items b)) (ap merge_lost c.in-Ok-true.is) c.merge_once.ensures.share;
}

pub findings_of-requires : goal.findings_of-requires
findings_of-requires g c =
    let p = c.args.p.now in
    let a = c.args.me.now in
    let b = c.merge_once.new.me in
    let between = still_between None [] c.merge_once.new.kept.items p a b (c.requires.ready.0, blank, c.requires.ready.1) (c.merge_once.ensures.called None [] a (c.loop.invariant.called None [])).back in
    (c.merge_once.ensures.share between.1 between.2.share).apart

pub findings_of-requires-in-Err : goal.findings_of-requires-in-Err
findings_of-requires-in-Err g c =
    let p = c.args.p.now in
    let a = c.args.me.now in
    let b = c.merge_once.new.me in
    let between = still_between None [] c.merge_once.new.kept.items p a b (c.requires.ready.0, blank, c.requires.ready.1) (c.merge_once.ensures.called None [] a (c.loop.invariant.called None [])).back in
    (c.merge_once.ensures.share between.1 between.2.share).apart

pub returns-in-Ok-false-clause-called : goal.returns-in-Ok-false-clause-called
returns-in-Ok-false-clause-called g c = λ o root.
    called_as o root c.merge_once.new.kept.items c.findings_of.result.pieces.items c.args.p.now 0 0 c.args.me.now c.merge_once.new.me (c.findings_of.ensures.pieces.files o root)
    (c.merge_once.ensures.called o root c.args.me.now (c.loop.invariant.called o root))

pub returns-in-Ok-false-clause-share : goal.returns-in-Ok-false-clause-share
returns-in-Ok-false-clause-share g c = λ u at.
    let w = c.args.p.now.world in
    let was = subst (λ (b : Bool). HasMerged w c.merge_once.new.kept.items b u) (ap merge_lost c.in-Ok-false.is) (c.merge_once.ensures.share u at) in
    merged_left w c.findings_of.result u c.findings_of.ensures.visits
    (subst (λ (b : Bool). HasMerged w c.findings_of.result.pieces.items b u) (sym c.findings_of.ensures.lost) (merged_rest w c.merge_once.new.kept.items c.findings_of.result.pieces.items false u c.findings_of.ensures.pieces was))

pub returns-in-Ok-false-clause-ended : goal.returns-in-Ok-false-clause-ended
returns-in-Ok-false-clause-ended g c = λ kept. c.merge_once.ensures.ended (c.in-Ok-false.is ∙ ap (λ (b : Bool). Ok b) c.in-Ok-false.field-0-test)

pub returns-in-Err-clause-called : goal.returns-in-Err-clause-called
returns-in-Err-clause-called g c = λ o root.
    called_as o root c.merge_once.new.kept.items c.findings_of-in-Err.result.pieces.items c.args.p.now 0 0 c.args.me.now c.merge_once.new.me (c.findings_of-in-Err.ensures.pieces.files o root)
    (c.merge_once.ensures.called o root c.args.me.now (c.loop.invariant.called o root))

pub returns-in-Err-clause-share : goal.returns-in-Err-clause-share
returns-in-Err-clause-share g c = λ u at.
    let w = c.args.p.now.world in
    let was = subst (λ (b : Bool). HasMerged w c.merge_once.new.kept.items b u) (ap merge_lost c.in-Err.is) (c.merge_once.ensures.share u at) in
    merged_left w c.findings_of-in-Err.result u c.findings_of-in-Err.ensures.visits
    (subst (λ (b : Bool). HasMerged w c.findings_of-in-Err.result.pieces.items b u) (sym c.findings_of-in-Err.ensures.lost) (merged_rest w c.merge_once.new.kept.items c.findings_of-in-Err.result.pieces.items true u c.findings_of-in-Err.ensures.pieces was))

pub returns-in-Err-clause-ended : goal.returns-in-Err-clause-ended
returns-in-Err-clause-ended g c = λ kept. let bad = sym c.findings_of-in-Err.ensures.lost ∙ kept in absurd (cc)
