use Rattle.std.proofs.Common.{subst, sym, inl, inr, ◌⊎◌, ◌≡◌, true, List, [], ◌∷◌, ◌++◌, ◌∙◌, Some, None, Err}
use Rattle.std.specs.Prelude.{IfSome}
use Rattle.firefly_outside.specs.Trees.{Counts, Path, IsFault, Directory}
use Rattle.firefly_outside.specs.declared.tree.Entry.{Entry}
use Rattle.firefly_outside.specs.declared.tree.Kind.TheVariants.{Dir}
use Rattle.firefly_outside.specs.declared.tree.TreeError.{TreeError}
use Rattle.walker.specs.Listings.{IsListingOf, IsReportedBy, ListsDir, with_listed}
use Rattle.walker.specs.declared.listing.Listing.{Listing}
use Rattle.index_findings.specs.declared.findings.Fault.TheVariants.{Dir as DirFault}
use Rattle.index_findings.proofs.ReportedLaws.{reported_on}
use Rattle.index_findings.specs.declared.findings.Visit.{Visit}
use Rattle.indexer.specs.Walks.{HasDone, MayFail, calls_with}
use Rattle.indexer.proofs.WalkSteps.{calls_listed, done_more, done_lost, done_fault, kept_more, visits_more}
use Rattle.indexer.proofs.workers.lister.list_one.Goals as goal

pub returns-in-Ok-keep_listing-clause-done : goal.returns-in-Ok-keep_listing-clause-done
returns-in-Ok-keep_listing-clause-done g c = (
  c.list_dir.ensures.tree_stays,
  c.list_dir.ensures.weak_stays,
  λ root count before p a b h.
      let old = c.args.tree.now in
      let new = c.list_dir.new.tree in
      let tree = g.S.Tree.tree old in
      let text = c.as_str.result.now in
      let calls = g.S.Tree.calls old in
      let calls' = g.S.Tree.calls new in
      let l = c.in-Ok.listing in
      done_more Dir tree root (g.S.Tree.may_fail old) count before p a (g.S.Tree.faults old) (g.S.Tree.faults new) calls calls' b c.args.visits.now.items c.keep_listing.new.visits.items text h c.in-Ok.ensures.count
      (visits_more tree c.args.visits.now.items c.keep_listing.new.visits.items c.args.dir text l c.in-Ok-keep_listing.ensures.ok c.as_str.ensures c.in-Ok.ensures.lawful
      (reported_on tree (λ t. IsReportedBy t text l × (calls' ≡ with_listed calls text)) (λ t. IsReportedBy t text l) (λ t q. q.0) c.in-Ok.ensures.reported))
      (kept_more c.args.visits.now.items c.keep_listing.new.visits.items c.args.dir text l c.in-Ok-keep_listing.ensures.ok c.as_str.ensures)
      (reported_on tree (λ t. IsReportedBy t text l × (calls' ≡ with_listed calls text)) (λ t. calls' ≡ calls_with Dir (text ∷ []) [] calls) (λ t q. q.1 ∙ calls_listed calls text) c.in-Ok.ensures.reported),
)

pub returns-in-Err-clause-done : goal.returns-in-Err-clause-done
returns-in-Err-clause-done g c = (
  c.list_dir.ensures.tree_stays,
  c.list_dir.ensures.weak_stays,
  λ root count before p a b h.
      let old = c.args.tree.now in
      let new = c.list_dir.new.tree in
      let tree = g.S.Tree.tree old in
      let text = c.as_str.result.now in
      let calls = g.S.Tree.calls old in
      let calls' = g.S.Tree.calls new in
      let l = c.in-Ok.listing in
      let visits = c.args.visits.now.items in
      subst (λ (vs : List Visit). HasDone Dir tree root (g.S.Tree.may_fail old) count (g.S.Tree.faults new) before calls' p 0 a b vs [] None true) (sym c.in-Err.ensures.err)
      (done_lost Dir tree root (g.S.Tree.may_fail old) count before p a (g.S.Tree.faults old) (g.S.Tree.faults new) calls calls' b visits text h c.in-Ok.ensures.count
      (reported_on tree (λ t. IsReportedBy t text l × (calls' ≡ with_listed calls text)) (λ t. (calls' ≡ calls) ⊎ (calls' ≡ calls_with Dir (text ∷ []) [] calls)) (λ t q. inr (q.1 ∙ calls_listed calls text)) c.in-Ok.ensures.reported)),
)

pub returns-in-Err-Failed-clause-done : goal.returns-in-Err-Failed-clause-done
returns-in-Err-Failed-clause-done g c = (
  c.list_dir.ensures.tree_stays,
  c.list_dir.ensures.weak_stays,
  λ root count before p a b h.
      let old = c.args.tree.now in
      let new = c.list_dir.new.tree in
      let tree = g.S.Tree.tree old in
      let weak = g.S.Tree.may_fail old in
      let text = c.as_str.result.now in
      let dir = c.args.dir in
      let calls = g.S.Tree.calls old in
      let calls' = g.S.Tree.calls new in
      let rose = subst (λ (e : TreeError). Counts {T = Listing} (g.S.Tree.faults old) (g.S.Tree.faults new) (Err e)) c.in-Err-Failed.field-0-is c.in-Err-Failed.ensures.count in
      let reported = subst (λ (e : TreeError). IfSome tree (ListsDir weak text calls calls' (Err e))) c.in-Err-Failed.field-0-is c.in-Err-Failed.ensures.reported in
      let reported_dir = subst (λ (d : Path). IfSome tree (λ t. IsFault weak d ((es : List Entry) × (t d ≡ Some (Directory es))) calls calls')) c.as_str.ensures reported in
      done_fault Dir tree root weak count before p a (g.S.Tree.faults old) (g.S.Tree.faults new) calls calls' b c.args.visits.now.items (DirFault dir) h rose
      (reported_on tree (λ t. IsFault weak dir ((es : List Entry) × (t dir ≡ Some (Directory es))) calls calls') (λ t. (calls' ≡ record calls { failed = calls.failed ++ dir ∷ [] }) × MayFail weak t (DirFault dir)) (λ t q. (q.noted, q.may)) reported_dir),
)

pub returns-in-Err-Memory-clause-done : goal.returns-in-Err-Memory-clause-done
returns-in-Err-Memory-clause-done g c = (
  c.list_dir.ensures.tree_stays,
  c.list_dir.ensures.weak_stays,
  λ root count before p a b h.
      let old = c.args.tree.now in
      let new = c.list_dir.new.tree in
      let tree = g.S.Tree.tree old in
      let weak = g.S.Tree.may_fail old in
      let text = c.as_str.result.now in
      let calls = g.S.Tree.calls old in
      let calls' = g.S.Tree.calls new in
      let visits = c.args.visits.now.items in
      let same = subst (λ (e : TreeError). Counts {T = Listing} (g.S.Tree.faults old) (g.S.Tree.faults new) (Err e)) c.in-Err-Memory.field-0-is c.in-Err-Memory.ensures.count in
      let reported = subst (λ (e : TreeError). IfSome tree (ListsDir weak text calls calls' (Err e))) c.in-Err-Memory.field-0-is c.in-Err-Memory.ensures.reported in
      done_lost Dir tree root weak count before p a (g.S.Tree.faults old) (g.S.Tree.faults new) calls calls' b visits text h same
      (reported_on tree (λ t. (calls' ≡ calls) ⊎ (calls' ≡ with_listed calls text)) (λ t. (calls' ≡ calls) ⊎ (calls' ≡ calls_with Dir (text ∷ []) [] calls))
      (λ t q. elim q [ inl none ↦ inl none | inr one ↦ inr (one ∙ calls_listed calls text) ]) reported),
)

pub returns-in-Ok-keep_listing-clause-found : goal.returns-in-Ok-keep_listing-clause-found
returns-in-Ok-keep_listing-clause-found g c =
    record {
      listing = c.in-Ok.listing;
      lawful = subst (λ (d : Path). IsListingOf d c.in-Ok.listing) c.as_str.ensures c.in-Ok.ensures.lawful;
      kept = c.in-Ok-keep_listing.ensures.ok;
      dirs = c.in-Ok-keep_listing.ensures.found.0;
      files = c.in-Ok-keep_listing.ensures.found.1;
    }
