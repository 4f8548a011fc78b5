-- Prefixes of the texts of a language, and the bad line of an input.
use Rattle.std.specs.Prelude.{◌≡◌, ◌⊎◌, ℕ, zero, suc, ◌+◌, ◌-◌, ◌≤◌, List, [], ◌∷◌, ◌++◌, if◌then◌else◌, ◌==◌}

-- some text begins with the bytes
abbrev pub Begins : (List ℕ → Type 0) → List ℕ → Type 0
Begins Text bytes = (more : List ℕ) × Text (bytes ++ more)

-- the first k lines, each with its newline; the last may lack it
abbrev pub first_lines : ℕ → List ℕ → List ℕ
first_lines k [] = []
first_lines zero (c ∷ bytes) = []
first_lines (suc k) (c ∷ bytes) = c ∷ (if c == 10 then first_lines k bytes else first_lines (suc k) bytes)

abbrev pub newlines : List ℕ → ℕ
newlines [] = 0
newlines (c ∷ bytes) = (if c == 10 then 1 else 0) + newlines bytes

-- Line k is the first at which the input is no prefix of a text.
pub record IsBrokenAt (Text : List ℕ → Type 0) (input : List ℕ) (k : ℕ) : Type 0 where
  pub counted : 1 ≤ k
  pub before : Begins Text (first_lines (k - 1) input)
  pub broken : Begins Text (first_lines k input) → ⊥

-- The input is a prefix of a text and no text: the line that was to go on is line k.
pub record IsCutShortAt (Text : List ℕ → Type 0) (input : List ℕ) (k : ℕ) : Type 0 where
  pub prefix : Begins Text input
  pub no_text : Text input → ⊥
  pub last : k ≡ newlines input + 1

-- line k is the bad line of the input
abbrev pub IsBadLine : (List ℕ → Type 0) → List ℕ → ℕ → Type 0
IsBadLine Text input k = IsBrokenAt Text input k ⊎ IsCutShortAt Text input k

-- no byte is a newline
abbrev pub IsFlat : List ℕ → Type 0
IsFlat [] = Unit {0}
IsFlat (c ∷ bytes) = (c ≡ 10 → ⊥) × IsFlat bytes

-- a newline at the end, and nowhere else
abbrev pub IsLine : List ℕ → Type 0
IsLine bytes = (body : List ℕ) × IsFlat body × (bytes ≡ body ++ 10 ∷ [])
