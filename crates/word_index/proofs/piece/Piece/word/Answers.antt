use Rattle.std.proofs.Common.{sym, ap, ◌∙◌}
use Rattle.word_index.specs.Index.{Row}
use Rattle.word_index.proofs.Rowed.{word_inside, row_view}
use Rattle.word_index.proofs.piece.Piece.word.Goals as goal

pub get-requires : goal.get-requires
get-requires c =
    let p = c.self.inside in
    let here = rw (← c.self.view_is) at c.requires in
    word_inside p.paths p.skipped p.words p.places c.self.invariant c.args.at here

pub returns : goal.returns
returns c =
    let p = c.self.inside in
    let here = rw (← c.self.view_is) at c.requires in
    rw (← c.self.view_is) (c.get.ensures ∙ sym (ap (λ (r : Row). r.word) (row_view p.paths p.skipped p.words p.places c.self.invariant c.args.at here)))
