use Rattle.std.proofs.Common.{◌≡◌, ℕ, List, [], ◌∷◌, length, get_or, map, IfNone, ap, subst, sym, ◌∙◌, arith}
use Rattle.std.specs.String.{string_bytes}
use Rattle.command_explore.specs.Words.{AsksFor}
use Rattle.command_explore.proofs.words.read_limit.Goals as goal

-- a list of one item
one_item : {X : Type 0} (xs : List X) (a : X) → length xs ≡ 1 → a ≡ get_or xs 0 a → xs ≡ a ∷ []
one_item [] a e p = absurd (omega (arith, e))
one_item (x ∷ []) a e p = λ i. sym p i ∷ []
one_item (x ∷ y ∷ xs) a e p = absurd (omega (arith, e))

pub returns-in-len1-clause-none : goal.returns-in-len1-clause-none
returns-in-len1-clause-none c =
    let items = one_item c.args.said.now c.word-item.result (omega (arith, c.in-len1.len_at_least, c.in-len1.len_below)) c.word-item.is in
    let said : map string_bytes c.args.said.now ≡ c.as_str.result.now ∷ [] = ap (map string_bytes) items ∙ (λ i. sym c.as_str.ensures.value i ∷ []) in
    subst (λ w. IfNone c.read_joined.result ((n : ℕ) → AsksFor w n → ⊥)) (sym said) c.read_joined.ensures.none
