-- Numbers in decimal.
use Rattle.std.specs.Prelude.{◌≡◌, ◌≢◌, ◌<◌, ◌≤◌, ℕ, List, decimal, length, slice_index}

-- the text is n, which is at least `least` and at most `most`, in decimal
abbrev pub IsNumber : ℕ → ℕ → List ℕ → ℕ → Type 0
IsNumber least most text n = (text ≡ decimal n) × (least ≤ n) × (n ≤ most)

-- the text doesn't begin with `+` (43) or, where more follows, with `0` (48)
abbrev pub IsPlain : List ℕ → Type 0
IsPlain text = (0 < length text) × (slice_index text 0 ≢ 43)
    × (slice_index text 0 ≡ 48 → length text ≡ 1)
