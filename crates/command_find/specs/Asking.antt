-- What the words after `find` ask for.
use Rattle.std.specs.Prelude.{◌≡◌, ◌≢◌, ◌⊎◌, ℕ, List, [], ◌∷◌, codes}
use Rattle.index_find.specs.Grammar.{Token}
use Rattle.index_text.specs.Faults.{budget, most_bytes}
use Rattle.text_output.specs.Numbers.{IsNumber}

-- a number of bytes, 1 to 2 ^ 40, and these tokens
abbrev pub AsksWithin : List Token → ℕ → List Token → Type 0
AsksWithin [] most tokens = ⊥
AsksWithin (number ∷ rest) most tokens = IsNumber 1 most_bytes number most × (tokens ≡ rest)

-- these tokens of a query, over a text of at most so many bytes: as many as follow `--limit`, if that comes first
abbrev pub Asks : List Token → ℕ → List Token → Type 0
Asks [] most tokens = (most ≡ budget) × (tokens ≡ [])
Asks (word ∷ rest) most tokens = ((word ≢ codes "--limit") × (most ≡ budget) × (tokens ≡ word ∷ rest))
    ⊎ ((word ≡ codes "--limit") × AsksWithin rest most tokens)
