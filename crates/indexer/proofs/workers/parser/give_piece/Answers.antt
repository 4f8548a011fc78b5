use Rattle.std.proofs.Common.{[], ◌∷◌, ◌++◌, All, List, Option, ap, sym, subst, ◌∙◌}
use Rattle.std.proofs.lemmas.List.Elements.{All-append, All-cons, All-nil}
use Rattle.firefly_outside.specs.Trees.{Path}
use Rattle.word_index.specs.Index.{Index}
use Rattle.index_findings.specs.Pieces.{IsFilesPiece}
use Rattle.index_rule.specs.Shares.{covered}
use Rattle.indexer.specs.Gets.{Gets, given, nothing}
use Rattle.indexer.proofs.Getting.{gets_before}
use Rattle.indexer.proofs.ParseShares.{passed_kept, passed_lost, passed_put}
use Rattle.indexer.proofs.Turning.{called_then, still_between}
use Rattle.indexer.proofs.workers.parser.give_piece.Goals as goal

pub cancel-requires-clause-between : goal.cancel-requires-clause-between
cancel-requires-clause-between g c =
    let fits = c.requires.piece in
    still_between fits.0 fits.1 [] c.args.p.now c.args.me.now c.put_piece.new.me c.requires.between (c.put_piece.ensures.called fits.0 fits.1 0 fits.2).back

pub returns-in-None-clause-gets : goal.returns-in-None-clause-gets
returns-in-None-clause-gets g c =
    let p = c.args.p.now in
    let x = c.args.piece in (
      covered p.world x,
      subst (λ (l : List Path). Gets p (record nothing { pieces_put = l }) c.args.me.now c.put_piece.new.me) (ap (λ (o : Option Index). given p.world o x) c.in-None.is) c.put_piece.ensures.gets,
      passed_put p.world x c.args.kept.now.items,
    )

pub returns-in-None-clause-given : goal.returns-in-None-clause-given
returns-in-None-clause-given g c = λ o root m fits. record { called = c.put_piece.ensures.called o root m fits; kept = λ all. all }

pub returns-in-Ok-clause-gets : goal.returns-in-Ok-clause-gets
returns-in-Ok-clause-gets g c =
    let p = c.args.p.now in
    let x = c.args.piece in (
      [],
      subst (λ (l : List Path). Gets p (record nothing { pieces_put = l }) c.args.me.now c.put_piece.new.me) (ap (λ (o : Option Index). given p.world o x) c.in-Some.is) c.put_piece.ensures.gets,
      passed_kept p.world x c.args.kept.now.items c.push.new.self.items (c.in-Ok.ensures.items ∙ ap (λ (y : Index). c.args.kept.now.items ++ y ∷ []) c.in-Some.ensures.back),
    )

pub returns-in-Ok-clause-given : goal.returns-in-Ok-clause-given
returns-in-Ok-clause-given g c = λ o root m fits.
    let x = c.in-Some.piece in
    record {
      called = c.put_piece.ensures.called o root m fits;
      kept = λ all.
          subst (All (IsFilesPiece o root)) (sym c.in-Ok.ensures.items)
          (All-append (IsFilesPiece o root) c.args.kept.now.items (x ∷ []) all
          (All-cons (IsFilesPiece o root) x [] (subst (IsFilesPiece o root) (sym c.in-Some.ensures.back) fits) (All-nil (IsFilesPiece o root))));
    }

pub returns-in-Err-clause-gets : goal.returns-in-Err-clause-gets
returns-in-Err-clause-gets g c =
    let p = c.args.p.now in
    let x = c.args.piece in (
      [],
      gets_before p nothing c.args.me.now c.put_piece.new.me c.cancel.new.me
          (subst (λ (l : List Path). Gets p (record nothing { pieces_put = l }) c.args.me.now c.put_piece.new.me) (ap (λ (o : Option Index). given p.world o x) c.in-Some.is) c.put_piece.ensures.gets) c.cancel.ensures.gets,
      passed_lost p.world x c.args.kept.now.items c.push.new.self.items c.in-Err.ensures.items,
    )

pub returns-in-Err-clause-given : goal.returns-in-Err-clause-given
returns-in-Err-clause-given g c = λ o root m fits. record {
  called = called_then o root c.args.p.now m c.args.me.now c.put_piece.new.me c.cancel.new.me (c.put_piece.ensures.called o root m fits) (c.cancel.ensures.called o root m);
  kept = λ all. subst (All (IsFilesPiece o root)) (sym c.in-Err.ensures.items) all;
}
