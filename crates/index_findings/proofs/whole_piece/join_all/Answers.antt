use Rattle.std.proofs.Common.{List, [], ◌∷◌, ◌++◌, arith, subst}
use Rattle.walker.specs.Pile.{AreApart}
use Rattle.word_index.specs.Index.{Index}
use Rattle.index_findings.specs.Pieces.{AreMergedFrom}
use Rattle.index_findings.proofs.PieceLaws.{last_apart, merged_none, merged_on, merged_same, merged_two}
use Rattle.index_findings.proofs.VisitLaws.{none_left}
use Rattle.index_findings.proofs.whole_piece.join_all.Goals as goal

pub returns-in_default : goal.returns-in_default
returns-in_default c = merged_none c.args.kept.items c.empty.result (none_left c.args.kept.items (let none = c.in_default.ensures.cases.0 in let ok = c.args.kept.ok.0 in omega arith)) c.empty.ensures

pub loop-piece-init : goal.loop-piece-init
loop-piece-init c = merged_same c.args.kept.items (c.pop.new.self.items ++ c.in-Some.whole ∷ []) c.in-Some.ensures.items

pub merge_or_drop-requires : goal.merge_or_drop-requires
merge_or_drop-requires c =
    last_apart c.pop-in-loop-piece.new.self.items c.in-Some-pop.piece c.loop-piece.whole
    (subst (λ (l : List Index). AreApart (l ++ c.loop-piece.whole ∷ [])) c.in-Some-pop.ensures.items (c.loop-piece.invariant.apart c.requires))

pub loop-piece-preserved : goal.loop-piece-preserved
loop-piece-preserved c =
    let rest = c.pop-in-loop-piece.new.self.items in
    let piece = c.in-Some-pop.piece in
    let whole = c.loop-piece.whole in
    merged_on c.args.kept.items ((rest ++ piece ∷ []) ++ whole ∷ []) (rest ++ c.in_ok-whole.whole ∷ [])
    (subst (λ (l : List Index). AreMergedFrom c.args.kept.items (l ++ whole ∷ [])) c.in-Some-pop.ensures.items c.loop-piece.invariant)
    (merged_two rest piece whole c.in_ok-whole.whole c.in_ok-whole.ensures.index c.in_ok-whole.ensures.union)

pub returns : goal.returns
returns c = subst (λ (l : List Index). AreMergedFrom c.args.kept.items (l ++ c.loop-piece.whole ∷ [])) (none_left c.loop-piece.kept.items (let none = c.in_default-pop.ensures.cases.0 in let ok = c.loop-piece.kept.ok.0 in omega arith)) c.loop-piece.invariant
