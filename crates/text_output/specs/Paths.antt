-- A path as it stands on a line.
use Rattle.std.specs.Prelude.{ℕ, List, [], ◌∷◌, ◌==◌, ◌&&◌, not, Bool, if◌then◌else◌}
use Rattle.std.specs.List.{flat_map}

abbrev pub newline : List ℕ
newline = 10 ∷ []

-- a backslash is written twice, and a newline as a backslash and `n`
abbrev pub escaped_byte : ℕ → List ℕ
escaped_byte b = if b == 92 then 92 ∷ 92 ∷ [] else (if b == 10 then 92 ∷ 110 ∷ [] else b ∷ [])

-- neither of the two
abbrev pub is_plain_byte : ℕ → Bool
is_plain_byte b = not (b == 92) && not (b == 10)

abbrev pub escaped : List ℕ → List ℕ
escaped path = flat_map escaped_byte path
