use Rattle.std.proofs.Common.{sym, ◌∙◌}
use Rattle.word_index.proofs.Views.{count_entries}
use Rattle.word_index.proofs.piece.Piece.occurrences.Goals as goal

pub returns : goal.returns
returns c =
    let p = c.self.inside in
    rw (← c.self.view_is) (c.total_count.ensures ∙ sym (count_entries p.paths p.words p.places c.self.invariant.many))
