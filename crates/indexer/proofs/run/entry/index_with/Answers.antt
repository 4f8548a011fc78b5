use Rattle.std.proofs.Common.{◌+◌, ◌≤◌, List, length, Option, None, sym, subst, ◌∙◌, arith}
use Rattle.std.specs.Prelude.{All, IfSome, slice_index_or}
use Rattle.firefly_outside.specs.Trees.{Contents}
use Rattle.walker.specs.Listings.{IsReportedBy}
use Rattle.index_findings.specs.declared.findings.Visit.{Visit}
use Rattle.index_findings.specs.Pieces.{IsFilesPiece}
use Rattle.std.specs.List.{flat_map}
use Rattle.walker.specs.Pile.{AreApart}
use Rattle.word_index.specs.Index.{Index}
use Rattle.index_findings.specs.Visits.{AreFound, AreVisits}
use Rattle.index_findings.specs.declared.findings.Findings.{Findings}
use Rattle.indexer.specs.Once.{EachOnce}
use Rattle.indexer.proofs.EndOnce.{each_once}
use Rattle.indexer.specs.Says.{HasCause, IndexSays, TreesAfter}
use Rattle.indexer.specs.Walks.{IsVisit}
use Rattle.indexer.proofs.SaysLaws.{all_visits, visits_lawful, visits_reported, if_each, index_says, end_says}
use Rattle.indexer.proofs.TreesLaws.{has_cause, left_found, trees_after}
use Rattle.indexer.proofs.run.entry.index_with.Goals as goal

pub decided_at-answer-requires-clause-lawful : goal.decided_at-answer-requires-clause-lawful
decided_at-answer-requires-clause-lawful g c κs within =
    let S = g.S.Tree in
    let o = c.requires.shows.0 in
    let n = c.args.plan.now.walkers + c.args.plan.now.parsers in
    let visits = c.in-Ok-gather.found.visits.items in
    visits_lawful o visits (subst (All (IsVisit o)) (sym c.in-Ok-gather.ensures.visits)
    (all_visits S.tree S.may_fail S.faults S.calls c.args.root.now c.args.plan.now.walkers n c.in-Ok.closed.threads c.args.trees.now c.worked_run.new.trees c.in-Ok.findings.items o c.requires.shows.1 c.in-Ok.ensures.run.found))

pub decided_at-answer-requires-clause-reported : goal.decided_at-answer-requires-clause-reported
decided_at-answer-requires-clause-reported g c κs within = λ s e.
    let S = g.S.Tree in
    let o = c.requires.shows.0 in
    let visits = c.in-Ok-gather.found.visits.items in
    let n = c.args.plan.now.walkers + c.args.plan.now.parsers in
    let all = subst (All (IsVisit o)) (sym c.in-Ok-gather.ensures.visits)
    (all_visits S.tree S.may_fail S.faults S.calls c.args.root.now c.args.plan.now.walkers n c.in-Ok.closed.threads c.args.trees.now c.worked_run.new.trees c.in-Ok.findings.items o c.requires.shows.1 c.in-Ok.ensures.run.found) in
    let same = c.requires.shows.1 n s (sym (c.in-Ok.ensures.run.others n None (omega arith)) ∙ e) in
    subst (λ (q : Option Contents). IfSome q (λ t. All (λ (v : Visit). IsReportedBy t v.dir v.listing) visits)) (sym same) (visits_reported o visits all)

pub decided_at-answer-requires-clause-pieces : goal.decided_at-answer-requires-clause-pieces
decided_at-answer-requires-clause-pieces g c κs within = λ s e.
    let o = c.requires.shows.0 in
    let pieces = c.in-Ok-gather.found.pieces.items in
    let n = c.args.plan.now.walkers + c.args.plan.now.parsers in
    let same = c.requires.shows.1 n s (sym (c.in-Ok.ensures.run.others n None (omega arith)) ∙ e) in
    subst (λ (q : Option Contents). All (IsFilesPiece q c.args.root.now) pieces) (sym same)
    (subst (All (IsFilesPiece o c.args.root.now)) (sym c.in-Ok-gather.ensures.pieces) (c.in-Ok.ensures.run.pieces o c.requires.shows.1))

pub decided_at-answer-requires-clause-once : goal.decided_at-answer-requires-clause-once
decided_at-answer-requires-clause-once g c κs within = λ kept. subst (AreVisits c.args.root.now) (sym c.in-Ok-gather.ensures.visits) c.in-Ok.ensures.run.visits

pub decided_at-answer-requires-clause-apart : goal.decided_at-answer-requires-clause-apart
decided_at-answer-requires-clause-apart g c κs within = λ kept. subst AreApart (sym c.in-Ok-gather.ensures.pieces) c.in-Ok.ensures.run.apart

pub decided_at-answer-requires-clause-found : goal.decided_at-answer-requires-clause-found
decided_at-answer-requires-clause-found g c κs within = λ kept.
    let gathered = c.in-Ok-gather.ensures in
    subst (λ (vs : List Visit). AreFound c.args.root.now vs c.in-Ok-gather.found.pieces.items) (sym gathered.visits)
    (subst (λ (ps : List Index). AreFound c.args.root.now (flat_map (λ (f : Findings). f.visits.items) c.in-Ok.findings.items) ps) (sym gathered.pieces) c.in-Ok.ensures.run.covered)

pub decided_at-answer-requires-clause-there : goal.decided_at-answer-requires-clause-there
decided_at-answer-requires-clause-there g c κs within =
    let n = c.args.plan.now.walkers + c.args.plan.now.parsers in
    let own = c.requires.there n (omega arith) in
    (own.0, c.in-Ok.ensures.run.others n None (omega arith) ∙ own.1)

pub decided_at-answer-requires-clause-stop : goal.decided_at-answer-requires-clause-stop
decided_at-answer-requires-clause-stop g c κs within = if_each c.args.plan.now.stop_after (λ n. n ≤ 1000000000) c.requires.plan.stop

pub returns : goal.returns
returns g c =
    let S = g.S.Tree in
    let plan = c.args.plan.now in
    let n = plan.walkers + plan.parsers in
    let own = c.requires.there n (omega arith) in
    let count = c.in-Ok.ensures.run.count in
    let many : n ≤ length c.in-Ok.findings.items = omega arith in
    let root = c.args.root.now in
    let old = c.args.trees.now in
    let mid = c.worked_run.new.trees in
    let new = c.decided_at-answer.new.trees in
    let run = c.in-Ok.ensures.run in
    let closed = c.in-Ok.closed in
    let findings = c.in-Ok.findings.items in
    let fault = c.in-Ok-gather.found.fault in
    let answer = c.decided_at-answer.result in
    let ends = c.decided_at-answer.ensures.ends in
    let others = c.decided_at-answer.ensures.others in
    let is = sym c.answer_of.ensures in
    record {
      once = λ o shows. subst (EachOnce S.calls o root n old new) is
          (each_once S.tree S.calls root n closed findings old mid new o own.0 own.1 shows run.once c.in-Ok-gather.found.visits.items c.in-Ok-gather.found.pieces.items c.in-Ok-gather.found.lost c.in-Ok-gather.ensures.visits c.in-Ok-gather.ensures.pieces c.in-Ok-gather.ensures.lost
          run.others others answer c.decided_at-answer.ensures.lost c.decided_at-answer.ensures.rest (ends own.0 (run.others n None (omega arith) ∙ own.1)).0 (ends own.0 (run.others n None (omega arith) ∙ own.1)).1);
      says = λ o shows. subst (IndexSays o root plan) is (index_says o root plan closed answer
          (end_says S.tree S.may_fail S.faults S.calls o root plan.stop_after fault own.0 (slice_index_or new n None) answer (shows n own.0 own.1) (ends own.0 (run.others n None (omega arith) ∙ own.1)))
          (record { layout = run.layout; untraced = run.untraced; traced = run.traced }));
      cause = subst (HasCause S.tree S.may_fail S.faults S.calls root old new) is
          (has_cause S.tree S.may_fail S.faults S.calls root plan.walkers n closed findings old mid new plan.stop_after fault c.in-Ok-gather.ensures.fault run.found own.0 own.1 run.others others c.requires.shows.0 c.requires.shows.1 answer ends);
      trees = subst (TreesAfter S.tree S.may_fail S.faults S.calls plan.walkers n old new) is
          (trees_after S.tree S.may_fail S.faults S.calls root plan.walkers n closed findings old mid new plan.stop_after fault c.in-Ok-gather.ensures.fault run.found own.0 own.1 run.others others many answer ends);
    }

pub returns-in_default-gather-clause-trees : goal.returns-in_default-gather-clause-trees
returns-in_default-gather-clause-trees g c =
    let S = g.S.Tree in
    let plan = c.args.plan.now in
    let n = plan.walkers + plan.parsers in
    let run = c.in-Ok.ensures.run in
    let count = run.count in
    let many : n ≤ length c.in-Ok.findings.items = omega arith in
    left_found S.tree S.may_fail S.faults S.calls c.args.root.now plan.walkers n c.in-Ok.closed.threads c.in-Ok.findings.items c.args.trees.now c.worked_run.new.trees many run.found run.others
