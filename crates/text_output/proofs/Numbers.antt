-- Decimal text and what `parse` makes of it.
use Rattle.std.proofs.Common.{◌≡◌, ◌≢◌, ◌∙◌, ◌^◌, ◌<◌, ℕ, List, length, get_or, arith, sym, ap, Result, Ok, refl, zero, suc}
use Rattle.std.specs.Prelude.{decimal, ◌==◌, false, slice_index}
use Rattle.std.specs.Str.Parse.{AllDigits, ParsesUnsigned, digits_value}
use Rattle.std.proofs.lemmas.Bool.{ne_eqb}
use Rattle.std.proofs.lemmas.Str.Parse.{IsNumeralModel, numerals_by_value, tells_digits, not_in_digits}
use Rattle.std.proofs.lemmas.Fmt.{decimal_digit, decimal_nonempty, first_decimal, digits_decimal, decimal-digits_value, parse-decimal}
use Rattle.text_output.specs.Numbers.{IsNumber, IsPlain}

own : IsNumeralModel (AllDigits 10) (digits_value 10)
own = numerals_by_value (AllDigits 10) tells_digits

pub IsPlain-decimal : (n : ℕ) → n < 2 ^ 64 → IsPlain (decimal n)
IsPlain-decimal n fits =
    let some : 0 < length (decimal n) = decimal_nonempty n fits in
    (some, not_in_digits own (decimal n) 43 (digits_decimal own n fits) (λ r. omega arith) 0 some, one n fits)
  where
    one : (n : ℕ) → n < 2 ^ 64 → get_or (decimal n) 0 0 ≡ 48 → length (decimal n) ≡ 1
    one zero fits e = rw (decimal_digit 0 (omega arith)) refl
    one (suc n) fits e = absurd (omega (arith, first_decimal (suc n) (omega arith) fits))

-- a plain text that `parse` reads is what is written of the number
pub decimal-parse : {E : Type 0} (bs : List ℕ) (r : Result ℕ E) (m : ℕ) → IsPlain bs → ParsesUnsigned 64 10 bs r → r ≡ Ok m → bs ≡ decimal m
decimal-parse {E} bs r m p h e =
    let no : (slice_index bs 0 == 43) ≡ false = ne_eqb _ _ p.1 in
    let k = rw no at (rw e at h) in
    sym (decimal-digits_value own bs k.0.0.1 p.0 p.2 k.0.1) ∙ ap decimal (sym k.1)

-- a number is plain, and `parse` reads it
pub parse-number : {E : Type 0} (least most : ℕ) (bs : List ℕ) (r : Result ℕ E) (n : ℕ) → most < 2 ^ 64 → IsNumber least most bs n → ParsesUnsigned 64 10 bs r → r ≡ Ok n
parse-number least most bs r n fits h p = parse-decimal 64 n bs r (omega (arith, h.2)) (omega (arith, h.2)) h.0 p

pub IsPlain-number : (least most : ℕ) (bs : List ℕ) (n : ℕ) → most < 2 ^ 64 → IsNumber least most bs n → IsPlain bs
IsPlain-number least most bs n fits h = rw h.0 (IsPlain-decimal n (omega (arith, h.2)))

-- a number doesn't begin with a hyphen
pub no-hyphen : (n : ℕ) → n < 2 ^ 64 → get_or (decimal n) 0 0 ≢ 45
no-hyphen n fits = not_in_digits own (decimal n) 45 (digits_decimal own n fits) (λ r. omega arith) 0 (decimal_nonempty n fits)
