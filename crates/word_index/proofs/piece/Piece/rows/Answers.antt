use Rattle.std.proofs.Common.{sym, ◌∙◌}
use Rattle.word_index.proofs.Sides.{length_rows}
use Rattle.word_index.proofs.piece.Piece.rows.Goals as goal

pub returns : goal.returns
returns c =
    let p = c.self.inside in
    rw (← c.self.view_is) (c.len.ensures ∙ sym (length_rows p.paths p.words p.places c.self.invariant.many))
