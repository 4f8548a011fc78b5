use Rattle.std.proofs.Common.{length, sym, ap, ◌∙◌}
use Rattle.word_index.proofs.Rowed.{row_inside, hits_view}
use Rattle.word_index.proofs.piece.Piece.hits.Goals as goal

pub get-requires : goal.get-requires
get-requires c =
    let p = c.self.inside in
    let here = rw (← c.self.view_is) at c.requires in
    row_inside p.paths p.skipped p.words p.places c.self.invariant c.args.at here

pub returns : goal.returns
returns c =
    let p = c.self.inside in
    let here = rw (← c.self.view_is) at c.requires in
    rw (← c.self.view_is) (ap length c.get.ensures ∙ sym (hits_view p.paths p.skipped p.words p.places c.self.invariant c.args.at here))
