use Rattle.std.proofs.Common.{◌≡◌, ◌∙◌, ℕ, true, List, Result, Ok, Err, refl, sym, ap, subst}
use Rattle.std.specs.List.{flat_map}
use Rattle.bounded_buffer.specs.declared.ends.TakeEnd.{TakeEnd}
use Rattle.bounded_buffer.specs.declared.ends.TakeEnd.TheVariants.{ClosedEmpty}
use Rattle.bounded_buffer.specs.Plain.{part_of}
use Rattle.nub.proofs.Users.{idle_again}
use Rattle.std.proofs.lemmas.Option.{same_Some}
use Rattle.firefly_outside.specs.Trees.{Path}
use Rattle.word_index.specs.Index.{Index}
use Rattle.index_rule.specs.Shares.{Share, covered}
use Rattle.index_rule.specs.declared.value.IndexItem.{IndexItem}
use Rattle.index_rule.specs.declared.value.IndexItem.TheVariants.{File, Piece}
use Rattle.indexer.specs.Gets.{Grows, nothing}
use Rattle.indexer.specs.Taken.{piece_of}
use Rattle.indexer.specs.Turns.{HasCalled}
use Rattle.indexer.proofs.Getting.{fits_kind, fits_piece, saw_end, take_pieces_more, taken_piece}
use Rattle.indexer.proofs.Turning.{adds_called, passes_take, taken_pieces}
use Rattle.indexer.proofs.calls.pieces.next_piece.Goals as goal

same : (x : Result (ℕ × IndexItem) TakeEnd) → taken_pieces x ≡ piece_of x
same (Ok (n, File path)) = refl
same (Ok (n, Piece piece)) = refl
same (Err e) = refl

pub as_piece-requires : goal.as_piece-requires
as_piece-requires g c = fits_kind c.args.p.now 2 c.args.me.now c.requires.between.1 c.requires.between.2.share c.take.result c.take.ensures.fits

pub returns-clause-called : goal.returns-clause-called
returns-clause-called g c = λ o root m.
    let p = c.args.p.now in
    let a = c.args.me.now in
    let b = c.take.new.me in
    let e = c.take.ensures in
    let between = c.requires.between in
    subst (λ (ps : List Index). HasCalled o root ps p m 0 a b) (same c.take.result ∙ sym c.as_piece.ensures.piece) (record {
      back = λ n s idle.
          let ran = e.ran s idle.share in
          (ran.share, idle_again p n s ran.share a b idle e.rest e.same e.held ran.is_share, passes_take o root c.take.result _ s ran.share ran.here);
      times = adds_called m _ _ a b (e.ran between.1 between.2.share).events;
    })

pub returns-clause-gets : goal.returns-clause-gets
returns-clause-gets g c = λ s at.
    let p = c.args.p.now in
    let a = c.args.me.now in
    let x = c.take.result in
    let ran = c.take.ensures.ran s at in
    let kind = fits_kind p 2 a c.requires.between.1 c.requires.between.2.share x c.take.ensures.fits in (
      ran.share,
      ran.is_share,
      subst (λ (l : List Path). Grows p.world (record nothing { pieces_taken = l }) s ran.share)
          (taken_piece p.world x kind ∙ ap (λ (ps : List Index). flat_map (covered p.world) ps) (sym c.as_piece.ensures.piece))
          (take_pieces_more p.world _ _ a.number s a c.take.new.me x ran),
    )

pub returns-clause-new : goal.returns-clause-new
returns-clause-new g c = fits_piece c.args.p.now c.args.me.now c.take.result c.as_piece.result c.as_piece.ensures.piece c.take.ensures.fits

pub returns-clause-ended : goal.returns-clause-ended
returns-clause-ended g c = λ is u at.
    let idle = c.requires.between.2 in
    let ran = c.take.ensures.ran c.requires.between.1 idle.share in
    subst (λ (r : Share). (part_of r.notes 2).seen_end ≡ true) (same_Some ran.share u (sym ran.is_share ∙ at)) (saw_end c.args.p.now.world _ _ c.args.me.now.number c.requires.between.1 c.args.me.now c.take.new.me c.take.result ran (c.as_piece.ensures.end ClosedEmpty is))
