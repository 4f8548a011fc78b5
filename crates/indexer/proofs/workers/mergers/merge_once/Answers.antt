use Rattle.std.proofs.Common.{[], ◌∷◌, ◌++◌, None, sym, ap, subst, List, Err, Option, true, ◌∙◌}
use Rattle.bounded_buffer.specs.declared.ends.TakeEnd.{TakeEnd}
use Rattle.indexer.specs.Gets.{OfShare}
use Rattle.indexer.specs.States.{HasMerged}
use Rattle.indexer.proofs.MergeShares.{apart_more, ended_share, lost_share, merged_share}
use Rattle.std.specs.Prelude.{All}
use Rattle.std.proofs.lemmas.List.Elements.{All-cons, All-head, All-nil, All-tail}
use Rattle.firefly_outside.specs.Trees.{Path, Contents}
use Rattle.word_index.specs.Index.{Index}
use Rattle.index_findings.specs.Pieces.{IsFilesPiece}
use Rattle.indexer.specs.Taken.{piece_in}
use Rattle.indexer.specs.Turns.{HasCalled, Run, Worker}
use Rattle.indexer.proofs.Turning.{called_on, called_as, still_between}
use Rattle.indexer.proofs.workers.mergers.merge_once.Goals as goal

prefix : {A : Type 0} (P : A → Type 0) (xs ys : List A) → All P (xs ++ ys) → All P xs
prefix P [] ys h = All-nil P
prefix P (x ∷ xs) ys h = All-cons P x xs (All-head P x (xs ++ ys) h) (prefix P xs ys (All-tail P x (xs ++ ys) h))

-- what a later call gives is let go
without : (o : Option Contents) (root : Path) (ps qs : List Index) (p : Run) (a b c : Worker) → HasCalled o root ps p 0 0 a b → HasCalled o root qs p 0 0 b c → HasCalled o root ps p 0 0 a c
without o root ps qs p a b c first second = called_as o root (ps ++ qs) ps p 0 0 a c (prefix (IsFilesPiece o root) ps qs) (called_on o root ps qs p 0 0 0 a b c first second)

pub keep-requires : goal.keep-requires
keep-requires g c =
    let p = c.args.p.now in
    let between = c.requires.between in
    let got = c.in-Ok.ensures.gets between.1 between.2.share in
    apart_more p.world c.args.kept.now.items between.1 got.0 c.in-Ok.piece got.2 (c.requires.share between.1 between.2.share) (c.in-Ok.ensures.new between.1 between.2.share)

pub cancel-requires-clause-between : goal.cancel-requires-clause-between
cancel-requires-clause-between g c = still_between None [] (piece_in c.next_piece.result) c.args.p.now c.args.me.now c.next_piece.new.me c.requires.between (c.next_piece.ensures.called None [] 0).back

pub returns-in-Err-Alerted-clause-called : goal.returns-in-Err-Alerted-clause-called
returns-in-Err-Alerted-clause-called g c = λ o root a h. without o root c.args.kept.now.items (piece_in c.next_piece.result) c.args.p.now a c.args.me.now c.next_piece.new.me h (c.next_piece.ensures.called o root 0)

pub returns-in-Err-Alerted-clause-share : goal.returns-in-Err-Alerted-clause-share
returns-in-Err-Alerted-clause-share g c = ended_share c.args.p.now c.args.kept.now.items c.args.me.now c.next_piece.new.me c.requires.between c.in-Err-Alerted.ensures.gets c.requires.share

pub returns-in-Err-ClosedEmpty-clause-called : goal.returns-in-Err-ClosedEmpty-clause-called
returns-in-Err-ClosedEmpty-clause-called g c = λ o root a h. without o root c.args.kept.now.items (piece_in c.next_piece.result) c.args.p.now a c.args.me.now c.next_piece.new.me h (c.next_piece.ensures.called o root 0)

pub returns-in-Err-ClosedEmpty-clause-share : goal.returns-in-Err-ClosedEmpty-clause-share
returns-in-Err-ClosedEmpty-clause-share g c = ended_share c.args.p.now c.args.kept.now.items c.args.me.now c.next_piece.new.me c.requires.between c.in-Err-ClosedEmpty.ensures.gets c.requires.share

pub returns-in-Err-ClosedEmpty-clause-ended : goal.returns-in-Err-ClosedEmpty-clause-ended
returns-in-Err-ClosedEmpty-clause-ended g c = λ is. c.next_piece.ensures.ended (c.in-Err-ClosedEmpty.is ∙ ap (λ (e : TakeEnd). Err e) c.in-Err-ClosedEmpty.field-0-is)

pub returns-in-Ok-keep-clause-called : goal.returns-in-Ok-keep-clause-called
returns-in-Ok-keep-clause-called g c = λ o root a h.
    let p = c.args.p.now in
    let old = c.args.kept.now.items in
    let x = c.in-Ok.piece in
    called_as o root (old ++ x ∷ []) c.keep.new.kept.items p 0 0 a c.next_piece.new.me (c.in-Ok-keep.ensures.kept.files o root) (called_on o root old (x ∷ []) p 0 0 0 a c.args.me.now c.next_piece.new.me h (c.in-Ok.ensures.called o root 0))

pub returns-in-Ok-keep-clause-share : goal.returns-in-Ok-keep-clause-share
returns-in-Ok-keep-clause-share g c =
    merged_share c.args.p.now c.args.kept.now.items c.keep.new.kept.items c.in-Ok.piece c.args.me.now c.next_piece.new.me c.requires.between c.in-Ok.ensures.gets c.requires.share c.in-Ok.ensures.new c.in-Ok-keep.ensures.kept

pub returns-in-Err-clause-called : goal.returns-in-Err-clause-called
returns-in-Err-clause-called g c = λ o root a h.
    let p = c.args.p.now in
    let old = c.args.kept.now.items in
    subst (λ (ps : List Index). HasCalled o root ps p 0 0 a c.cancel.new.me) (sym c.in-Err.ensures.refused)
    (without o root old [] p a c.next_piece.new.me c.cancel.new.me
    (without o root old (piece_in c.next_piece.result) p a c.args.me.now c.next_piece.new.me h (c.next_piece.ensures.called o root 0))
    (c.cancel.ensures.called o root 0))

pub returns-in-Err-clause-share : goal.returns-in-Err-clause-share
returns-in-Err-clause-share g c =
    subst (λ (ps : List Index). OfShare c.cancel.new.me (HasMerged c.args.p.now.world ps true)) (sym c.in-Err.ensures.refused)
    (lost_share c.args.p.now c.args.kept.now.items c.in-Ok.piece c.args.me.now c.next_piece.new.me c.cancel.new.me c.requires.between c.in-Ok.ensures.gets c.cancel.ensures.gets c.requires.share)
