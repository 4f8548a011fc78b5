use Rattle.std.proofs.Common.{rules, ◌++◌, ◌∷◌, [], All, List, length, append_assoc, arith, refl, sym, ap, subst, ◌∙◌}
use Rattle.std.specs.Vec.Iter.{into_iter_items}
use Rattle.std.proofs.lemmas.List.Elements.{All-head, All-tail}
use Rattle.std.proofs.lemmas.List.Sorted.{All-permutation}
use Rattle.firefly_outside.specs.Trees.{Contents}
use Rattle.walker.specs.Listings.{IsListingOf, IsReportedBy}
use Rattle.index_findings.specs.declared.findings.Visit.{Visit}
use Rattle.index_findings.specs.Visits.{HasNoted}
use Rattle.index_findings.proofs.VisitLaws.{all_yielded, are_next, none_left, next_lawful, next_unlisted, noted_more, noted_none, noted_sorted, sorted_at, sorted_by_dir}
use Rattle.index_findings.proofs.visited.note_visits.Goals as goal

abbrev ReportedIn : Contents → Visit → Type 0
ReportedIn t v = IsReportedBy t v.dir v.listing

pub loop-visit-init : goal.loop-visit-init
loop-visit-init c = record {
  whole = refl;
  left = c.into_iter-visit-iterator.ensures.into_iter_gives.1 ∙ (c.sort_by.new.self.ok.0 ∙ ap length (sym c.into_iter-visit-iterator.ensures.into_iter_gives.0));
  noted = subst (HasNoted c.args.walked.now.root []) (sym c.requires.first) (noted_none c.args.walked.now.root);
  reported = λ t walk all. (walk, all);
}

pub note_visit-requires-clause-unlisted : goal.note_visit-requires-clause-unlisted
note_visit-requires-clause-unlisted c =
    let root = c.args.walked.now.root in
    let at = c.loop-visit in
    let sorted = c.sort_by.new.self.items in
    let order = sorted_by_dir sorted c.in_ok-sort_by.ensures.sorted (λ a r q k. search rules) in
    let next = are_next c.args.visits.items sorted c.sort_by.ensures.permutation root c.requires.visits c.requires.lawful order in
    next_unlisted root sorted at.yielded (into_iter_items c.next.new.self) c.in-Some.visit at.walked next
    (sorted_at (into_iter_items c.into_iter-visit-iterator.result) sorted at.yielded _ _ c.in-Some.visit c.into_iter-visit-iterator.ensures.into_iter_gives.0 at.invariant.whole c.in-Some.ensures.steps.0)
    at.invariant.noted

pub note_visit-requires-clause-lawful : goal.note_visit-requires-clause-lawful
note_visit-requires-clause-lawful c =
    let at = c.loop-visit in
    let sorted = c.sort_by.new.self.items in
    next_lawful sorted at.yielded (into_iter_items c.next.new.self) c.in-Some.visit (All-permutation (λ (v : Visit). IsListingOf v.dir v.listing) c.args.visits.items sorted c.sort_by.ensures.permutation c.requires.lawful)
    (sorted_at (into_iter_items c.into_iter-visit-iterator.result) sorted at.yielded _ _ c.in-Some.visit c.into_iter-visit-iterator.ensures.into_iter_gives.0 at.invariant.whole c.in-Some.ensures.steps.0)

pub loop-visit-preserved : goal.loop-visit-preserved
loop-visit-preserved c =
    let at = c.loop-visit in
    let was = at.invariant in
    let x = c.in-Some.visit in
    let rest = into_iter_items c.next.new.self in
    let steps = c.in-Some.ensures.steps.0 in
    let noted = c.in_ok-note_visit.ensures in
    let root = c.args.walked.now.root in
    let sorted = c.sort_by.new.self.items in
    let order = sorted_by_dir sorted c.in_ok-sort_by.ensures.sorted (λ a r q k. search rules) in
    let next = are_next c.args.visits.items sorted c.sort_by.ensures.permutation root c.requires.visits c.requires.lawful order in
    let off = next_unlisted root sorted at.yielded rest x at.walked next
    (sorted_at (into_iter_items c.into_iter-visit-iterator.result) sorted at.yielded _ _ x c.into_iter-visit-iterator.ensures.into_iter_gives.0 was.whole steps) was.noted in
    let gone = c.in-Some.ensures.steps.1 in
    let short = ap length steps in
    record {
      left = (let left = was.left in omega arith);
      whole = append_assoc at.yielded (x ∷ []) rest ∙ (ap (λ (l : List Visit). at.yielded ++ l) (sym steps) ∙ was.whole);
      noted = noted_more c.args.walked.now.root at.yielded x at.walked c.note_visit.new.walked off noted.noted was.noted;
      reported = λ t walk all.
          let h = was.reported t walk all in
          let own = subst (All (ReportedIn t)) steps h.1 in
          (noted.reported t h.0 (All-head (ReportedIn t) x rest own), All-tail (ReportedIn t) x rest own);
    }

pub returns-clause-noted : goal.returns-clause-noted
returns-clause-noted c =
    let at = c.loop-visit in
    let sorted = c.sort_by.new.self.items in
    noted_sorted c.args.visits.items sorted c.sort_by.ensures.permutation c.args.walked.now.root at.walked
    (subst (λ (l : List Visit). HasNoted c.args.walked.now.root l at.walked)
    (all_yielded at.yielded (into_iter_items at.visit-iterator) (into_iter_items c.into_iter-visit-iterator.result) sorted at.invariant.whole (none_left (into_iter_items at.visit-iterator) (sym at.invariant.left ∙ c.in-None.ensures.steps.0)) c.into_iter-visit-iterator.ensures.into_iter_gives.0) at.invariant.noted)

pub returns-clause-reported : goal.returns-clause-reported
returns-clause-reported c = λ t walk all.
    let gives = c.into_iter-visit-iterator.ensures.into_iter_gives.0 in
    (c.loop-visit.invariant.reported t walk (subst (All (ReportedIn t)) (sym gives) (All-permutation (ReportedIn t) c.args.visits.items c.sort_by.new.self.items c.sort_by.ensures.permutation all))).0
