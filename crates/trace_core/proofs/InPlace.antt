-- What is written where it stays.
use Rattle.std.proofs.Common.{◌≡◌, ℕ, ◌+◌, ◌≤◌, List, ◌++◌, length, length-append, take, drop, sym, ap, ◌∙◌, append_assoc, arith}
use Rattle.std.proofs.lemmas.List.{take-append-drop, take_at, length-take}

-- a text that ends at a place, with all before it and after it as it was
pub in_place : (old new text : List ℕ) (start at end : ℕ) → start + length text ≡ end → at + length text ≡ end → end ≤ length old → drop start new ≡ text ++ drop end old
    → take start new ≡ take start old → take end new ≡ take at old ++ text
in_place old new text start at end here wanted low written before =
    let same : start ≡ at = omega arith in
    let whole : new ≡ (take at old ++ text) ++ drop end old =
    sym (take-append-drop start new) ∙ ap (λ l. take start new ++ l) written ∙ ap (λ l. l ++ (text ++ drop end old)) (before ∙ ap (λ i. take i old) same) ∙ sym (append_assoc (take at old) text (drop end old))
    in
    let size : length (take at old ++ text) ≡ end = omega (arith, length-append (take at old) text, length-take at old) in
    ap (take end) whole ∙ take_at (take at old ++ text) (drop end old) end size
