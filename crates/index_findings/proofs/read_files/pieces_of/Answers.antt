use Rattle.std.proofs.Common.{◌≢◌, AllPairs, List, ap, arith, length, sym, subst, ◌∙◌}
use Rattle.std.specs.Prelude.{All, None, Option}
use Rattle.std.specs.Vec.Iter.{into_iter_items}
use Rattle.std.proofs.lemmas.List.Elements.{All-head, All-nil, All-tail}
use Rattle.std.proofs.lemmas.List.Sorted.{All-permutation, IsPermutation-sym}
use Rattle.firefly_outside.specs.Trees.{Contents}
use Rattle.index_findings.specs.declared.read_files.ReadFile.{ReadFile}
use Rattle.index_findings.specs.ReadFiles.{AreRead, IsRead, IsReadAt}
use Rattle.index_findings.specs.Pieces.{IsFilesPiece}
use Rattle.index_findings.proofs.CoverLaws.{all_covered, none_covered, none_reported, read_sorted, turn_covered}
use Rattle.index_findings.proofs.ReadFileLaws.{holds_none}
use Rattle.index_findings.proofs.OnceLaws.{next_fresh, once_first, once_turn, paths_read, read_once_sorted}
use Rattle.index_findings.proofs.read_files.pieces_of.Goals as goal

abbrev Read : Option Contents → ReadFile → Type 0
Read o r = IsRead o r.path r.file

pub loop-read-init : goal.loop-read-init
loop-read-init c =
    let gives = c.into_iter-read-iterator.ensures.into_iter_gives in
    let made = c.new-pieces.ensures.items in
    let none = c.new-batch.ensures in
    record {
      files = λ o all. (subst (All (IsFilesPiece o c.args.root.now)) (sym made) (All-nil (IsFilesPiece o c.args.root.now)), holds_none o c.args.root.now c.new-batch.result none.none, all);
      left = gives.1 ∙ (c.sort_by.new.self.ok.0 ∙ ap length (sym gives.0));
      once = λ once. once_first c.args.root.now c.new-pieces.result.items c.new-batch.result (into_iter_items c.into_iter-read-iterator.result) made none.empty once;
      covers = λ path. none_covered c.args.root.now path (into_iter_items c.into_iter-read-iterator.result) c.new-pieces.result.items c.new-batch.result made none.empty;
    }

pub loop-read-preserved : goal.loop-read-preserved
loop-read-preserved c =
    let at = c.loop-read in
    let was = at.invariant in
    let x = c.in-Some.read in
    let old = into_iter_items at.read-iterator in
    let rest = into_iter_items c.next.new.self in
    let steps = c.in-Some.ensures.steps.0 in
    let gone = c.in-Some.ensures.steps.1 in
    let short = ap length steps in
    let added = c.in_ok-batch.ensures in
    let all = into_iter_items c.into_iter-read-iterator.result in
    let held = (was.files None (none_reported all)).1 in
    record {
      files = λ o read.
          let h = was.files o read in
          let own = subst (AreRead o) steps h.2 in
          (added.pieces o h.1 h.0, added.batch o h.1 (All-head (Read o) x rest own), All-tail (Read o) x rest own);
      left = (let left = was.left in omega arith);
      once = λ once.
          let before = was.once once in
          once_turn c.args.root.now old rest x steps at.pieces.items at.batch before c.add_file-added.new.pieces.items c.in_ok-batch.batch
          (added.apart held.files held.holds before.held (next_fresh c.args.root.now old rest x steps at.pieces.items at.batch before)) (added.covers held.files held.holds);
      covers = λ path. turn_covered c.args.root.now path all old rest x at.pieces.items c.add_file-added.new.pieces.items at.batch c.in_ok-batch.batch steps (was.covers path) (added.covers held.files held.holds path);
    }

pub returns-clause-files : goal.returns-clause-files
returns-clause-files c = λ o read.
    let gives = c.into_iter-read-iterator.ensures.into_iter_gives.0 in
    let all = subst (AreRead o) (sym gives) (All-permutation (Read o) c.args.loaded.items c.sort_by.new.self.items c.sort_by.ensures.permutation read) in
    let was = c.loop-read.invariant.files o all in
    c.in_ok-put_batch.ensures.pieces o c.args.root.now was.1 was.0

pub returns-clause-covers : goal.returns-clause-covers
returns-clause-covers c = λ path.
    let root = c.args.root.now in
    let at = c.loop-read in
    let gives = c.into_iter-read-iterator.ensures.into_iter_gives.0 in
    let sorted = c.sort_by.new.self.items in
    let same = c.sort_by.ensures.permutation in
    let all = into_iter_items c.into_iter-read-iterator.result in
    let left = into_iter_items at.read-iterator in
    let held = (at.invariant.files None (none_reported all)).1 in
    let covered = all_covered root path all left at.pieces.items c.put_batch.new.pieces.items at.batch (sym at.invariant.left ∙ c.in-None.ensures.steps.0) (at.invariant.covers path)
    (c.in_ok-put_batch.ensures.covers held.files held.holds path) in (
      (λ h. read_sorted root path sorted c.args.loaded.items (IsPermutation-sym c.args.loaded.items sorted same) (subst (λ (l : List ReadFile). IsReadAt root l path) gives (covered.0 h))),
      (λ h. covered.1 (subst (λ (l : List ReadFile). IsReadAt root l path) (sym gives) (read_sorted root path c.args.loaded.items sorted same h))),
    )

pub returns-clause-apart : goal.returns-clause-apart
returns-clause-apart c = λ once.
    let at = c.loop-read in
    let gives = c.into_iter-read-iterator.ensures.into_iter_gives.0 in
    let all = into_iter_items c.into_iter-read-iterator.result in
    let held = (at.invariant.files None (none_reported all)).1 in
    let sorted = subst (λ (l : List ReadFile). AllPairs (λ p q. p ≢ q) (paths_read l)) (sym gives) (read_once_sorted c.args.loaded.items c.sort_by.new.self.items c.sort_by.ensures.permutation once) in
    c.in_ok-put_batch.ensures.apart held.files held.holds (at.invariant.once sorted).held
