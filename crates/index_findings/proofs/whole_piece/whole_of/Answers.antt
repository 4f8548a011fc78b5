use Rattle.std.proofs.Common.{◌≡◌, List, [], ◌∷◌, ◌++◌, length, append_assoc, append-nil, arith, sym, ap, subst, ◌∙◌}
use Rattle.std.specs.Vec.Iter.{into_iter_items}
use Rattle.walker.specs.Pile.{AreApart}
use Rattle.word_index.specs.Index.{Index}
use Rattle.index_findings.specs.Pieces.{AreMergedFrom}
use Rattle.index_findings.proofs.ReadFileLaws.{if_ok_map}
use Rattle.index_findings.proofs.PieceLaws.{apart_ahead, merged_ahead, merged_on, merged_same}
use Rattle.index_findings.proofs.VisitLaws.{none_left}
use Rattle.index_findings.proofs.whole_piece.whole_of.Goals as goal

pub loop-piece-init : goal.loop-piece-init
loop-piece-init c =
    let all = into_iter_items c.into_iter-piece-iterator.result in
    let gives = c.into_iter-piece-iterator.ensures.into_iter_gives in
    record {
      left = gives.1 ∙ (c.args.pieces.ok.0 ∙ ap length (sym gives.0));
      merged = merged_same all (c.new-kept.result.items ++ all) (ap (λ (l : List Index). l ++ all) (sym c.new-kept.ensures.items));
    }

-- one more ahead of the rest
one_ahead : (kept rest left : List Index) (x : Index) → left ≡ x ∷ rest → kept ++ left ≡ (kept ++ x ∷ []) ++ rest
one_ahead kept rest left x is = ap (λ (l : List Index). kept ++ l) is ∙ sym (append_assoc kept (x ∷ []) rest)

pub keep-requires : goal.keep-requires
keep-requires c =
    let kept = c.loop-piece.kept.items in
    let rest = into_iter_items c.next.new.self in
    let all = subst AreApart (sym c.into_iter-piece-iterator.ensures.into_iter_gives.0) c.requires in
    apart_ahead (kept ++ c.in-Some.piece ∷ []) rest
    (subst AreApart (one_ahead kept rest (into_iter_items c.loop-piece.piece-iterator) c.in-Some.piece c.in-Some.ensures.steps.0) (c.loop-piece.invariant.merged.apart all))

pub loop-piece-preserved : goal.loop-piece-preserved
loop-piece-preserved c =
    let kept = c.loop-piece.kept.items in
    let rest = into_iter_items c.next.new.self in
    let left = into_iter_items c.loop-piece.piece-iterator in
    let all = into_iter_items c.into_iter-piece-iterator.result in
    let x = c.in-Some.piece in
    let steps = c.in-Some.ensures.steps.0 in
    let gone = c.in-Some.ensures.steps.1 in
    let short = ap length steps in
    record {
      left = (let left = c.loop-piece.invariant.left in omega arith);
      merged = merged_on all ((kept ++ x ∷ []) ++ rest) (c.keep.new.kept.items ++ rest) (subst (AreMergedFrom all) (one_ahead kept rest left x steps) c.loop-piece.invariant.merged)
          (merged_ahead (kept ++ x ∷ []) c.keep.new.kept.items rest c.in_ok-keep.ensures.kept);
    }

pub join_all-requires : goal.join_all-requires
join_all-requires c =
    let all = subst AreApart (sym c.into_iter-piece-iterator.ensures.into_iter_gives.0) c.requires in
    apart_ahead c.loop-piece.kept.items (into_iter_items c.loop-piece.piece-iterator) (c.loop-piece.invariant.merged.apart all)

pub returns : goal.returns
returns c =
    let kept = c.loop-piece.kept.items in
    let left = into_iter_items c.loop-piece.piece-iterator in
    let was = c.loop-piece.invariant in
    let none : left ≡ [] = none_left left (sym was.left ∙ c.in-None.ensures.steps.0) in
    let all = subst (λ (l : List Index). AreMergedFrom l (kept ++ left)) c.into_iter-piece-iterator.ensures.into_iter_gives.0 was.merged in
    if_ok_map c.join_all.result _ _ (λ p merged. merged_on c.args.pieces.items kept (p ∷ []) (subst (AreMergedFrom c.args.pieces.items) (ap (λ (l : List Index). kept ++ l) none ∙ append-nil kept) all) merged) c.join_all.ensures
