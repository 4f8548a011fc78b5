use Rattle.std.proofs.Common.{sym, ◌∙◌}
use Rattle.word_index.proofs.Views.{length_entries}
use Rattle.word_index.proofs.piece.Piece.entries.Goals as goal

pub returns : goal.returns
returns c =
    let p = c.self.inside in
    rw (← c.self.view_is) (c.total.ensures ∙ sym (length_entries p.paths p.words p.places c.self.invariant.many))
