-- The bytes of a window after a move of its ends.
use Rattle.std.proofs.Common.{◌≡◌, ℕ, ◌+◌, ◌-◌, ◌<◌, ◌≤◌, List, ◌++◌, length, take, drop, ap, sym, ◌∙◌, arith}
use Rattle.std.proofs.lemmas.List.{drop-take, drop-drop, length-take-le, length-drop}
use Rattle.std.proofs.Math.Seq.{take-add}
use Rattle.std.specs.Io.KnownBytes.{Consumes, IsAtEnd}
use Rattle.std.specs.declared.option.Option.{Option}
use Rattle.firefly_outside.specs.Window.{Takes}

pub part-skip : (buf : List ℕ) (start end n : ℕ) → start + n ≤ end → take (end - (start + n)) (drop (start + n) buf) ≡ drop n (take (end - start) (drop start buf))
part-skip buf start end n le =
    let e : end - start ≡ n + (end - (start + n)) = omega arith in
    sym (ap (λ m. drop n (take m (drop start buf))) e ∙ drop-take n (end - (start + n)) (drop start buf) ∙ ap (take (end - (start + n))) (drop-drop n start buf))

pub length-part : (buf : List ℕ) (start end : ℕ) → end ≤ length buf → length (take (end - start) (drop start buf)) ≡ end - start
length-part buf start end le = length-take-le (end - start) (drop start buf) (omega (arith, length-drop start buf))

pub part-grow : (buf old : List ℕ) (kept n most : ℕ) (left left' : Option (List ℕ)) → take kept buf ≡ old → kept + n ≤ length buf → kept < length buf → n ≤ most
    → Consumes left left' (take n (drop kept buf)) × (n ≡ 0 → 0 < length (drop kept buf) → IsAtEnd left') → Takes most left left' old (take (kept + n - 0) (drop 0 buf)) n
part-grow buf old kept n most left left' prefix within some bounded bytes = record {
  piece = take n (drop kept buf);
  following =
      let e : kept + n - 0 ≡ kept + n = omega arith in
      ap (λ m. take m buf) e ∙ take-add kept n buf ∙ ap (λ l. l ++ take n (drop kept buf)) prefix;
  consumed = bytes.0;
  count = length-take-le n (drop kept buf) (omega (arith, length-drop kept buf));
  bounded = bounded;
  at_end = λ z. bytes.1 z (omega (arith, length-drop kept buf));
}
