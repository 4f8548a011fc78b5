-- Grammars of texts that are lines.
use Rattle.std.specs.Prelude.{◌≡◌, ℕ, List, ◌++◌}
use Rattle.std.specs.List.{AllByRecursion, flat_map}
use Rattle.exact_text.specs.Prefixes.{IsLine}

-- a lawful line, and what may come next
abbrev pub IsLineAnd : {X : Type 0} → (X → Type 0) → (X → List ℕ) → (X → List ℕ → Type 0) → List ℕ → Type 0
IsLineAnd {X} lawful text Next bytes = (x : X) × (rest : List ℕ) × lawful x × Next x rest × (bytes ≡ text x ++ rest)

-- A text of the language is a lawful line, and a text of the language that comes next.
pub record Unfolds {X : Type 0} (Text : List ℕ → Type 0) (lawful : X → Type 0) (text : X → List ℕ)
    (Next : X → List ℕ → Type 0) : Type 0 where
  pub opens : (bytes : List ℕ) → Text bytes → IsLineAnd lawful text Next bytes
  pub closes : (x : X) (rest : List ℕ) → lawful x → Next x rest → Text (text x ++ rest)
  pub goes_on : (x : X) → lawful x → (rest : List ℕ) × Next x rest
  pub some : (x : X) × lawful x
  pub lines : (x : X) → lawful x → IsLine (text x)

-- lines of one kind, as many as one likes
abbrev pub AreLines : {X : Type 0} → (X → Type 0) → (X → List ℕ) → List ℕ → Type 0
AreLines {X} lawful text bytes = (xs : List X) × AllByRecursion lawful xs × (bytes ≡ flat_map text xs)
