use Rattle.std.proofs.Common.{ℕ, List, Result, ap, append-nil, subst, ◌∙◌}
use Rattle.bounded_buffer.specs.declared.ends.PutEnd.{PutEnd}
use Rattle.firefly_outside.specs.Trees.{Path}
use Rattle.index_rule.specs.Shares.{covered, paths_in}
use Rattle.index_rule.specs.declared.value.IndexItem.{IndexItem}
use Rattle.indexer.specs.Gets.{Grows, nothing}
use Rattle.indexer.proofs.Getting.{put_pairs, put_pieces_more}
use Rattle.nub.proofs.Users.{idle_again}
use Rattle.index_rule.specs.declared.value.IndexItem.TheVariants.{Piece as PieceItem}
use Rattle.indexer.proofs.Turning.{adds_called, passes_put}
use Rattle.indexer.proofs.calls.pieces.put_piece.Goals as goal

pub returns-in-Ok-clause-called : goal.returns-in-Ok-clause-called
returns-in-Ok-clause-called g c = λ o root m fits.
    let p = c.args.p.now in
    let a = c.args.me.now in
    let b = c.put.new.me in
    let e = c.put.ensures in
    let between = c.requires.between in
    record {
      back = λ n s idle.
          let ran = e.ran s idle.share in
          (ran.share, idle_again p n s ran.share a b idle e.rest e.same e.held ran.is_share, passes_put o root (PieceItem c.args.piece) c.put.result _ s ran.share ran.here fits);
      times = adds_called m _ _ a b (e.ran between.1 between.2.share).events;
    }

pub returns-in-Err-default-Piece-clause-called : goal.returns-in-Err-default-Piece-clause-called
returns-in-Err-default-Piece-clause-called g c = λ o root m fits.
    let p = c.args.p.now in
    let a = c.args.me.now in
    let b = c.put.new.me in
    let e = c.put.ensures in
    let between = c.requires.between in
    record {
      back = λ n s idle.
          let ran = e.ran s idle.share in
          (ran.share, idle_again p n s ran.share a b idle e.rest e.same e.held ran.is_share, passes_put o root (PieceItem c.args.piece) c.put.result _ s ran.share ran.here fits);
      times = adds_called m _ _ a b (e.ran between.1 between.2.share).events;
    }

pub put-requires-clause-may : goal.put-requires-clause-may
put-requires-clause-may g c κs within = let between = c.requires.between in (between.1, between.2.share, c.requires.may between.1 between.2.share)

pub returns-in-Ok-clause-gets : goal.returns-in-Ok-clause-gets
returns-in-Ok-clause-gets g c = λ s at.
    let p = c.args.p.now in
    let a = c.args.me.now in
    let x = c.put.result in
    let ran = c.put.ensures.ran s at in (
      ran.share,
      ran.is_share,
      subst (λ (l : List Path). Grows p.world (record nothing { pieces_put = l }) s ran.share)
          (ap (λ (y : Result ℕ (PutEnd × IndexItem)). paths_in p.world (put_pairs (PieceItem c.args.piece) y)) c.in-Ok.is ∙ append-nil (covered p.world c.args.piece))
          (put_pieces_more p.world _ _ a.number s a c.put.new.me (PieceItem c.args.piece) x ran),
    )

pub returns-in-Err-default-Piece-clause-gets : goal.returns-in-Err-default-Piece-clause-gets
returns-in-Err-default-Piece-clause-gets g c = λ s at.
    let p = c.args.p.now in
    let a = c.args.me.now in
    let x = c.put.result in
    let ran = c.put.ensures.ran s at in (
      ran.share,
      ran.is_share,
      subst (λ (l : List Path). Grows p.world (record nothing { pieces_put = l }) s ran.share)
          (ap (λ (y : Result ℕ (PutEnd × IndexItem)). paths_in p.world (put_pairs (PieceItem c.args.piece) y)) c.in-Err-default-Piece.is)
          (put_pieces_more p.world _ _ a.number s a c.put.new.me (PieceItem c.args.piece) x ran),
    )
