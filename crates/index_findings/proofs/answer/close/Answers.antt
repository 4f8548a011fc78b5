use Rattle.std.proofs.Common.{[], All, subst, sym}
use Rattle.std.proofs.lemmas.List.Elements.{All-head}
use Rattle.firefly_outside.specs.Trees.{Path}
use Rattle.index_findings.specs.Pieces.{IsFilesPiece}
use Rattle.index_findings.specs.Rest.{WalksRest}
use Rattle.index_findings.proofs.PieceLaws.{covered_one, part_of_walk}
use Rattle.index_findings.proofs.RestLaws.{walks_none, walks_on}
use Rattle.index_findings.proofs.ReportedLaws.{reported_all, reported_on}
use Rattle.walker.specs.Closing.{CallsOnce}
use Rattle.walker.specs.declared.answer.WalkAnswer.TheVariants.{Memory}
use Rattle.index_findings.proofs.answer.close.Goals as goal

pub close_walk-requires-clause-part : goal.close_walk-requires-clause-part
close_walk-requires-clause-part g c κs within =
    let tree = g.S.Tree.tree c.args.tree.now in
    let w = c.args.walked in
    let piece = c.in-Ok.piece in
    let merged = c.in-Ok.ensures in
    part_of_walk tree w piece
    (All-head (IsFilesPiece tree w.root) piece [] (merged.files tree w.root (subst (λ (r : Path). All (IsFilesPiece tree r) c.args.pieces.items) (sym c.requires.root) c.requires.pieces)))
    (λ p h. c.requires.found p ((merged.covers p).0 (record { piece = piece; among = covered_one piece; covers = h })))

pub returns-in-Ok-clause-rest : goal.returns-in-Ok-clause-rest
returns-in-Ok-clause-rest g c =
    let tree = g.S.Tree.tree c.args.tree.now in
    let calls = g.S.Tree.calls c.args.tree.now in
    let calls' = g.S.Tree.calls c.close_walk.new.tree in
    let piece = c.in-Ok.piece in
    reported_on tree (λ t. CallsOnce t c.args.walked piece.paths calls calls' c.close_walk.result) (λ t. WalksRest t c.args.walked c.args.pieces.items calls calls' c.close_walk.result)
    (λ t once. walks_on t c.args.walked c.args.pieces.items piece calls calls' c.close_walk.result c.in-Ok.ensures once) c.close_walk.ensures.once

pub returns-in-Err-clause-rest : goal.returns-in-Err-clause-rest
returns-in-Err-clause-rest g c =
    let tree = g.S.Tree.tree c.args.tree.now in
    let calls = g.S.Tree.calls c.args.tree.now in
    reported_all tree (λ t. WalksRest t c.args.walked c.args.pieces.items calls calls Memory) (λ t. walks_none t c.args.walked c.args.pieces.items calls)
