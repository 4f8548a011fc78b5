-- Bytes without a newline.
use Rattle.std.proofs.Common.{◌≡◌, ℕ, ◌+◌, ◌%◌, ◌^◌, ◌<◌, ◌≤◌, inl, inr, List, [], ◌∷◌, length, Bool, true, false, arith}
use Rattle.std.proofs.lemmas.Bool.{eqb-false}
use Rattle.std.proofs.lemmas.Fmt.{decimal_by_steps, length-decimal-le}
use Rattle.std.specs.Prelude.{decimal, if◌then◌else◌, ◌==◌}
use Rattle.exact_text.specs.Prefixes.{IsFlat}
use Rattle.exact_text.proofs.Words.{chosen}
use Rattle.exact_text.proofs.Grammar.{IsFlat-append}

abbrev pub is_flat : List ℕ → Bool
is_flat [] = true
is_flat (c ∷ bytes) = if c == 10 then false else is_flat bytes

pub flat_from : (bytes : List ℕ) → is_flat bytes ≡ true → IsFlat bytes
flat_from [] e = tt
flat_from (c ∷ bytes) e =
    elim (chosen (c == 10) _ _ _ e) [
      | inl p ↦ let h = p.1 in absurd (cc)
      | inr p ↦ (eqb-false c 10 p.0, flat_from bytes p.1)
    ]

pub flat_decimal : (n : ℕ) → n < 2 ^ 64 → IsFlat (decimal n)
flat_decimal n fits =
    decimal_by_steps (λ _ ds. IsFlat ds) (λ n small. ((λ h. omega arith), tt)) (λ n ds large h. IsFlat-append ds ((48 + n % 10) ∷ []) h ((λ k. omega arith), tt)) n fits

pub decimal_short : (n : ℕ) → n < 2 ^ 64 → length (decimal n) ≤ 20
decimal_short n fits = length-decimal-le 20 n (omega arith) (omega arith) fits
