use Rattle.std.proofs.Common.{[], ◌++◌, ◌∙◌, All, Bool, List, ap, arith, length, true, false, sym, subst}
use Rattle.index_findings.proofs.VisitLaws.{none_left}
use Rattle.std.specs.List.{flat_map}
use Rattle.word_index.specs.Index.{Index}
use Rattle.index_rule.specs.Shares.{covered}
use Rattle.indexer.specs.Gets.{OfShare}
use Rattle.indexer.specs.States.{IsPassedOn, MayPutPieces}
use Rattle.indexer.proofs.Getting.{gets_none}
use Rattle.indexer.proofs.ParseShares.{IsUnderWay, gets_pieces, may_left, may_piece, way_begins, way_ends, way_lost, way_on}
use Rattle.std.specs.Vec.Iter.{into_iter_items}
use Rattle.std.proofs.lemmas.List.Elements.{All-head, All-tail}
use Rattle.index_findings.specs.Pieces.{IsFilesPiece}
use Rattle.indexer.proofs.ReadFileLaws.{given_none, given_then}
use Rattle.indexer.proofs.Turning.{still_between}
use Rattle.indexer.proofs.workers.parser.give_pieces.Goals as goal

pub give_piece-requires-clause-between : goal.give_piece-requires-clause-between
give_piece-requires-clause-between g c =
    let o = c.requires.pieces.0 in
    let root = c.requires.pieces.1 in
    let all = subst (All (IsFilesPiece o root)) (sym c.into_iter-piece-iterator.ensures.into_iter_gives.0) c.requires.pieces.2 in
    still_between o root [] c.args.p.now c.args.me.now c.loop-piece.me c.requires.between (c.loop-piece.invariant.given o root 0 all).1.called.back

pub give_piece-requires-clause-piece : goal.give_piece-requires-clause-piece
give_piece-requires-clause-piece g c =
    let o = c.requires.pieces.0 in
    let root = c.requires.pieces.1 in
    let all = subst (All (IsFilesPiece o root)) (sym c.into_iter-piece-iterator.ensures.into_iter_gives.0) c.requires.pieces.2 in
    (o, root, All-head (IsFilesPiece o root) c.in-Some.piece (into_iter_items c.next.new.self) (subst (All (IsFilesPiece o root)) c.in-Some.ensures.steps.0 (c.loop-piece.invariant.given o root 0 all).0))

pub loop-piece-preserved : goal.loop-piece-preserved
loop-piece-preserved g c =
    let w = c.args.p.now.world in
    let was = c.loop-piece.invariant in
    let x = c.in-Some.piece in
    let rest = into_iter_items c.next.new.self in
    let all = into_iter_items c.into_iter-piece-iterator.result in
    let more = c.give_piece.ensures.gets in
    let fits = c.requires.pieces in
    let known = subst (All (IsFilesPiece fits.0 fits.1)) (sym c.into_iter-piece-iterator.ensures.into_iter_gives.0) fits.2 in
    let between = still_between fits.0 fits.1 [] c.args.p.now c.args.me.now c.loop-piece.me c.requires.between (was.given fits.0 fits.1 0 known).1.called.back in
    let passed = subst (λ (b : Bool). IsPassedOn w (covered w x) more.0 c.loop-piece.kept.items c.give_piece.new.kept.items b) c.if-not-give_piece.false more.2 in
    let steps = c.in-Some.ensures.steps.0 in
    let gone = c.in-Some.ensures.steps.1 in
    record {
      left = (let left = was.left in let same = ap length steps in omega arith);
      put = more.0 ++ was.put;
      gets = gets_pieces c.args.p.now was.put more.0 c.args.me.now c.loop-piece.me c.give_piece.new.me was.gets more.1;
      way = way_on w all rest x was.put more.0 c.args.kept.now.items c.loop-piece.kept.items c.give_piece.new.kept.items (subst (λ (l : List Index). IsUnderWay w all l was.put c.args.kept.now.items c.loop-piece.kept.items) c.in-Some.ensures.steps.0 was.way) passed;
      may = may_left c.args.p.now x rest c.loop-piece.kept.items c.give_piece.new.kept.items more.0 true c.loop-piece.me c.give_piece.new.me between more.1 passed (subst (λ (l : List Index). OfShare c.loop-piece.me (MayPutPieces w l)) c.in-Some.ensures.steps.0 was.may);
      given = λ o root m all.
          let was = c.loop-piece.invariant.given o root m all in
          let left = subst (All (IsFilesPiece o root)) c.in-Some.ensures.steps.0 was.0 in (
            All-tail (IsFilesPiece o root) x rest left,
            given_then o root c.args.p.now m c.args.kept.now.items c.loop-piece.kept.items c.give_piece.new.kept.items c.args.me.now c.loop-piece.me c.give_piece.new.me
                was.1 (c.give_piece.ensures.given o root m (All-head (IsFilesPiece o root) x rest left)),
          );
    }

pub returns-then-not-give_piece-clause-given : goal.returns-then-not-give_piece-clause-given
returns-then-not-give_piece-clause-given g c = λ o root m given.
    let was = c.loop-piece.invariant.given o root m (subst (All (IsFilesPiece o root)) (sym c.into_iter-piece-iterator.ensures.into_iter_gives.0) given) in
    let x = c.in-Some.piece in
    let rest = into_iter_items c.next.new.self in
    let left = subst (All (IsFilesPiece o root)) c.in-Some.ensures.steps.0 was.0 in
    given_then o root c.args.p.now m c.args.kept.now.items c.loop-piece.kept.items c.give_piece.new.kept.items c.args.me.now c.loop-piece.me c.give_piece.new.me
    was.1 (c.give_piece.ensures.given o root m (All-head (IsFilesPiece o root) x rest left))

pub returns-clause-given : goal.returns-clause-given
returns-clause-given g c = λ o root m given.
    (c.loop-piece.invariant.given o root m (subst (All (IsFilesPiece o root)) (sym c.into_iter-piece-iterator.ensures.into_iter_gives.0) given)).1

pub loop-piece-init : goal.loop-piece-init
loop-piece-init g c =
    let all = into_iter_items c.into_iter-piece-iterator.result in
    let gives = c.into_iter-piece-iterator.ensures.into_iter_gives in
    record {
      left = gives.1 ∙ (c.args.pieces.ok.0 ∙ ap length (sym gives.0));
      put = [];
      gets = gets_none c.args.p.now c.args.me.now;
      way = way_begins c.args.p.now.world all c.args.kept.now.items;
      may = subst (λ (l : List Index). OfShare c.args.me.now (MayPutPieces c.args.p.now.world l)) (sym c.into_iter-piece-iterator.ensures.into_iter_gives.0) c.requires.may;
      given = λ o root m every. (every, given_none o root c.args.p.now m c.args.kept.now.items c.args.me.now);
    }

pub give_piece-requires-clause-may : goal.give_piece-requires-clause-may
give_piece-requires-clause-may g c s at =
    may_piece c.args.p.now.world c.in-Some.piece (into_iter_items c.next.new.self) s (subst (λ (l : List Index). MayPutPieces c.args.p.now.world l s) c.in-Some.ensures.steps.0 (c.loop-piece.invariant.may s at))

pub returns-then-not-give_piece-clause-gets : goal.returns-then-not-give_piece-clause-gets
returns-then-not-give_piece-clause-gets g c =
    let w = c.args.p.now.world in
    let was = c.loop-piece.invariant in
    let x = c.in-Some.piece in
    let rest = into_iter_items c.next.new.self in
    let all = into_iter_items c.into_iter-piece-iterator.result in
    let more = c.give_piece.ensures.gets in
    let passed = subst (λ (b : Bool). IsPassedOn w (covered w x) more.0 c.loop-piece.kept.items c.give_piece.new.kept.items b) c.if-not-give_piece.true more.2 in (
      more.0 ++ was.put,
      gets_pieces c.args.p.now was.put more.0 c.args.me.now c.loop-piece.me c.give_piece.new.me was.gets more.1,
      subst (λ (l : List Index). IsPassedOn w (flat_map (covered w) l) (more.0 ++ was.put) c.args.kept.now.items c.give_piece.new.kept.items false) c.into_iter-piece-iterator.ensures.into_iter_gives.0
          (way_lost w all rest x was.put more.0 c.args.kept.now.items c.loop-piece.kept.items c.give_piece.new.kept.items (subst (λ (l : List Index). IsUnderWay w all l was.put c.args.kept.now.items c.loop-piece.kept.items) c.in-Some.ensures.steps.0 was.way) passed),
    )

pub returns-clause-gets : goal.returns-clause-gets
returns-clause-gets g c =
    let w = c.args.p.now.world in
    let was = c.loop-piece.invariant in
    let all = into_iter_items c.into_iter-piece-iterator.result in (
      was.put,
      was.gets,
      subst (λ (l : List Index). IsPassedOn w (flat_map (covered w) l) was.put c.args.kept.now.items c.loop-piece.kept.items true) c.into_iter-piece-iterator.ensures.into_iter_gives.0
          (way_ends w all was.put c.args.kept.now.items c.loop-piece.kept.items (subst (λ (l : List Index). IsUnderWay w all l was.put c.args.kept.now.items c.loop-piece.kept.items) (none_left (into_iter_items c.loop-piece.piece-iterator) (sym was.left ∙ c.in-None.ensures.steps.0)) was.way)),
    )
