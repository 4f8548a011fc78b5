use Rattle.std.proofs.Common.{◌≡◌, [], ◌∷◌, map, ap, sym, ◌∙◌, arith}
use Rattle.std.specs.String.{string_bytes}
use Rattle.program_timeline.proofs.Wording.{one_item, same_word}
use Rattle.program_timeline.proofs.words.is_json.Goals as goal

pub returns-in-len1 : goal.returns-in-len1
returns-in-len1 c =
    let items = one_item c.args.said.now c.word-item.result (omega (arith, c.in-len1.len_at_least, c.in-len1.len_below)) c.word-item.is in
    let said : map string_bytes c.args.said.now ≡ c.as_str.result.now ∷ [] = ap (map string_bytes) items ∙ (λ i. sym c.as_str.ensures.value i ∷ []) in
    ((λ t. said ∙ ap (λ w. w ∷ []) (c.is_word.ensures.0 t)), (λ e. c.is_word.ensures.1 (same_word _ _ (sym said ∙ e))))
