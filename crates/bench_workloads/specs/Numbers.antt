-- Numbers that words say.
use Rattle.std.specs.Prelude.{◌≡◌, ◌≤◌, ℕ, List}
use Rattle.std.specs.Str.Parse.{IsNumeral, digits_value, without_leading_plus}

-- the word is n in decimal, with zeros in front and a plus before them or without, and n lies from
-- `least` to `most`
abbrev pub IsWordOf : ℕ → ℕ → List ℕ → ℕ → Type 0
IsWordOf least most word n = IsNumeral 10 (without_leading_plus word) × (n ≡ digits_value 10 (without_leading_plus word)) × (least ≤ n)
    × (n ≤ most)
