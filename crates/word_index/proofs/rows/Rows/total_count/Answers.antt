use Rattle.std.proofs.Common.{◌≡◌, length, ap, sym, ◌∙◌, sum_by, arith, take}
use Rattle.std.specs.List.{flat_map}
use Rattle.std.proofs.lemmas.List.{take_all}
use Rattle.word_index.proofs.Parts.{parts_joined}
use Rattle.word_index.proofs.rows.Rows.total_count.Goals as goal

pub returns : goal.returns
returns c =
    let old = c.self.inside in
    let whole = sym (ap (flat_map (λ r. r)) c.self.view_is) ∙ parts_joined old.places.items 0 old.ends.items c.self.invariant in
    c.loop-place.invariant.so_far ∙ ap (sum_by (λ p. p.count)) (take_all c.loop-place.place-index c.as_slice-places.result.now c.loop-place-test.false ∙ c.as_slice-places.ensures.value ∙ sym whole)
