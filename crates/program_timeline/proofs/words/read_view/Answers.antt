use Rattle.std.proofs.Common.{◌≡◌, [], ◌∷◌, map, IfNone, ap, subst, sym, ◌∙◌, arith}
use Rattle.std.specs.String.{string_bytes}
use Rattle.trace_shapes.specs.declared.view.DrawnRange.{DrawnRange}
use Rattle.program_timeline.specs.Words.{AsksFor}
use Rattle.program_timeline.proofs.Wording.{two_items, four_items}
use Rattle.program_timeline.proofs.words.read_view.Goals as goal

pub returns-in-len2-clause-none : goal.returns-in-len2-clause-none
returns-in-len2-clause-none c =
    let items = two_items c.args.said.now c.name-item.result c.number-item.result (omega (arith, c.in-len2.len_at_least, c.in-len2.len_below)) c.name-item.is c.number-item.is in
    let said : map string_bytes c.args.said.now ≡ c.as_str.result.now ∷ c.as_str-in-len2.result.now ∷ [] =
    ap (map string_bytes) items ∙ (λ i. sym c.as_str.ensures.value i ∷ sym c.as_str-in-len2.ensures.value i ∷ [])
    in
    subst (λ w. IfNone c.read_one.result ((v : DrawnRange) → AsksFor w v → ⊥)) (sym said) c.read_one.ensures.none

pub returns-in-len4-clause-none : goal.returns-in-len4-clause-none
returns-in-len4-clause-none c =
    let items = four_items c.args.said.now c.name-item-then-said-lt5.result c.number-item-then-said-lt5.result c.other-item.result c.last-item.result (omega (arith, c.in-len4.len_at_least, c.in-len4.len_below)) c.name-item-then-said-lt5.is c.number-item-then-said-lt5.is c.other-item.is c.last-item.is in
    let said : map string_bytes c.args.said.now ≡ c.as_str-in-len4.result.now ∷ c.as_str-in-len4-2.result.now ∷ c.as_str-in-len4-3.result.now ∷ c.as_str-in-len4-4.result.now ∷ [] =
    ap (map string_bytes) items ∙ (λ i. sym c.as_str-in-len4.ensures.value i ∷ sym c.as_str-in-len4-2.ensures.value i ∷ sym c.as_str-in-len4-3.ensures.value i ∷ sym c.as_str-in-len4-4.ensures.value i ∷ [])
    in
    subst (λ w. IfNone c.read_two.result ((v : DrawnRange) → AsksFor w v → ⊥)) (sym said) c.read_two.ensures.none
