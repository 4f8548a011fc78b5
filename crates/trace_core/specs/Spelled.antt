-- Places that are kept with their text.
use Rattle.std.specs.Prelude.{◌≡◌, ℕ, ◌+◌, ◌-◌, ◌*◌, ◌/◌, ◌^◌, ◌<◌, ◌≤◌, length, decimal}
use Rattle.trace_core.specs.Usual.{little}

-- The text of a number of at most eight digits as a number, its bits, what one more adds to it, the last number of its ten, and where
-- it has two digits that of its hundred.
abbrev pub IsShort : ℕ → ℕ → ℕ → ℕ → ℕ → ℕ → ℕ → Type 0
IsShort value text mask one last hundred size =
    (size ≡ length (decimal value)) × (text ≡ little (decimal value)) × (mask ≡ 2 ^ (8 * size) - 1) × (one ≡ 2 ^ (8 * (size - 1)))
    × (last ≡ value / 10 * 10 + 9) × (value < hundred → (10 ≤ value) × (hundred ≡ value / 100 * 100 + 99))

-- A longer number has no text that can be met.
abbrev pub IsSpelled : ℕ → ℕ → ℕ → ℕ → ℕ → ℕ → ℕ → Type 0
IsSpelled value text mask one last hundred size =
    (value < 2 ^ 64) × (value ≤ last) × (size ≤ 8 → IsShort value text mask one last hundred size)
    × (8 < size → (text ≡ 1) × (mask ≡ 0) × (one ≡ 0) × (hundred ≡ 0))
