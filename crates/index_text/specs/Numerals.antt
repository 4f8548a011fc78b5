-- Numbers of any size, in decimal digits.
use Rattle.std.specs.Prelude.{ℕ, zero, suc, ◌+◌, ◌-◌, ◌*◌, ◌/◌, ◌%◌, ◌^◌, min, ◌==◌, nat_lt, nat_le, Bool, ◌&&◌, List, [], ◌∷◌, ◌++◌, if◌then◌else◌, Ok, Err}
use Rattle.exact_text.specs.declared.stop.Stop.TheVariants.{More, Dead}
use Rattle.exact_text.specs.Reading.{Reader}

-- the digits of a number, for which so many turns are enough
unfoldable pub digits_in : ℕ → ℕ → List ℕ
digits_in zero n = []
digits_in (suc turns) n = if nat_lt n 10 then (48 + n) ∷ [] else digits_in turns (n / 10) ++ (48 + n % 10) ∷ []

-- the digits of a number, the highest first
unfoldable pub numeral : ℕ → List ℕ
numeral n = digits_in (suc n) n

-- a digit from 1 on
abbrev pub is_leading : ℕ → Bool
is_leading c = nat_le 49 c && nat_le c 57

-- the first digit of a number
abbrev pub leading_at : Reader ℕ
leading_at [] = Err More
leading_at (c ∷ bytes) = if is_leading c then Ok (c - 48, bytes) else Err Dead

abbrev pub is_digit : ℕ → Bool
is_digit c = nat_le 48 c && nat_le c 57

-- the rest of a number, after digits that stand for v, up to the byte that stops it
abbrev pub digits_from : ℕ → ℕ → Reader ℕ
digits_from stop v [] = Err More
digits_from stop v (c ∷ bytes) =
    if c == stop then Ok (v, bytes)
    else if is_digit c then digits_from stop (10 * v + (c - 48)) bytes
    else Err Dead

-- a number from 1 on, and the byte that stops it
abbrev pub numeral_at : ℕ → Reader ℕ
numeral_at stop [] = Err More
numeral_at stop (c ∷ bytes) = if is_leading c then digits_from stop (c - 48) bytes else Err Dead

-- the number, or the greatest of 64 bits where it is greater
abbrev pub capped : ℕ → ℕ
capped n = min n (2 ^ 64 - 1)
