use Rattle.std.proofs.Common.{length, ap, sym, ◌∙◌}
use Rattle.std.specs.List.{flat_map}
use Rattle.word_index.proofs.Parts.{parts_joined}
use Rattle.word_index.proofs.rows.Rows.total.Goals as goal

pub returns : goal.returns
returns c =
    let old = c.self.inside in
    c.len.ensures ∙ old.places.ok.0 ∙ sym (ap length (sym (ap (flat_map (λ r. r)) c.self.view_is) ∙ parts_joined old.places.items 0 old.ends.items c.self.invariant))
