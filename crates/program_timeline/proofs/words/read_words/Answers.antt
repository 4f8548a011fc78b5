use Rattle.std.proofs.Common.{◌≡◌, ◌∷◌, map, IfNone, ap, subst, sym, ◌∙◌, inl, inr}
use Rattle.std.proofs.lemmas.List.{nil_from_length}
use Rattle.std.specs.String.{string_bytes}
use Rattle.trace_shapes.specs.declared.view.DrawnRange.{DrawnRange}
use Rattle.program_timeline.specs.Words.{AsksOrdered}
use Rattle.program_timeline.proofs.Wording.{wants_none}
use Rattle.program_timeline.proofs.words.read_words.Goals as goal

pub returns-in-Some-split_first-clause-none : goal.returns-in-Some-split_first-clause-none
returns-in-Some-split_first-clause-none c =
    let rest = map string_bytes c.in-Some-split_first.rest.now in
    let said : map string_bytes c.args.said.now ≡ c.as_str.result.now ∷ rest = ap (map string_bytes) c.in-Some-split_first.ensures.cases.0 ∙ (λ i. sym c.as_str.ensures.value i ∷ rest) in
    wants_none _ c.read_ordered.result c.in_default.ensures.none (subst (λ w. IfNone c.read_ordered.result ((v : DrawnRange) → AsksOrdered w v → ⊥)) (sym said) c.read_ordered.ensures.none)

pub returns-in-None-clause-none : goal.returns-in-None-clause-none
returns-in-None-clause-none c =
    let none = nil_from_length c.args.said.now c.in-None.ensures.cases in λ v w. elim w [
      | inl a ↦ c.in_default.ensures.none v a
      | inr a ↦ subst (λ xs. AsksOrdered (map string_bytes xs) v) none a
    ]
