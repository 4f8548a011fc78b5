-- The words of the command line, and the part of a trace that they ask for.
use Rattle.std.specs.Prelude.{◌≡◌, ◌⊎◌, ℕ, ◌+◌, ◌-◌, ◌^◌, List, [], ◌∷◌, ◌++◌, Option, Some, None, codes, decimal, min, unwrap_or, IfSome, ◌<◌, true, false}
use Rattle.trace_shapes.specs.declared.view.DrawnRange.{DrawnRange}
use Rattle.program_timeline.specs.declared.words.Request.{Request}
use Rattle.program_timeline.specs.declared.words.Request.TheVariants.{Picture, Json}

-- the words that say a bound, where there is one
abbrev pub bound_words : List ℕ → Option ℕ → List (List ℕ)
bound_words name None = []
bound_words name (Some n) = name ∷ decimal n ∷ []

-- the words say these bounds: each at most once and in either order, in decimal, below 2^64
pub record Asks (words : List (List ℕ)) (from to : Option ℕ) : Type 0 where
  pub spelt : (words ≡ bound_words (codes "--from") from ++ bound_words (codes "--to") to)
      ⊎ (words ≡ bound_words (codes "--to") to ++ bound_words (codes "--from") from)
  pub first : IfSome from (λ k. k < 2 ^ 64)
  pub last : IfSome to (λ k. k < 2 ^ 64)

-- the events from the first bound on, or from the first event, and up to the last bound, or to the last event
abbrev pub view_between : Option ℕ → Option ℕ → DrawnRange
view_between from None = record { first = unwrap_or from 0; end = 2 ^ 64 - 1; ordered = false }
view_between from (Some to) = record { first = unwrap_or from 0; end = min (to + 1) (2 ^ 64 - 1); ordered = false }

-- the words ask for this part
abbrev pub AsksFor : List (List ℕ) → DrawnRange → Type 0
AsksFor words v = (from to : Option ℕ) × Asks words from to × (v ≡ view_between from to)

-- these words say the first bound, and those the second
abbrev pub IsPair : List (List ℕ) → List (List ℕ) → ℕ → ℕ → Type 0
IsPair words more k n = (words ≡ codes "--from" ∷ decimal k ∷ []) × (more ≡ codes "--to" ∷ decimal n ∷ []) × (k < 2 ^ 64) × (n < 2 ^ 64)

-- the same part, with the lock order
abbrev pub with_order : DrawnRange → DrawnRange
with_order v = record { first = v.first; end = v.end; ordered = true }

-- the words are `--order` and words after it that ask for a part
abbrev pub AsksOrdered : List (List ℕ) → DrawnRange → Type 0
AsksOrdered [] v = ⊥
AsksOrdered (word ∷ rest) v = (u : DrawnRange) × (word ≡ codes "--order") × AsksFor rest u × (v ≡ with_order u)

-- the words ask for this part, with the lock order where `--order` stands in front
abbrev pub Wants : List (List ℕ) → DrawnRange → Type 0
Wants words v = AsksFor words v ⊎ AsksOrdered words v

-- the words ask for this: a picture of this part, or by `--json` alone the events as JSON
abbrev pub Requests : List (List ℕ) → Request → Type 0
Requests words (Picture v) = Wants words v
Requests words Json = words ≡ codes "--json" ∷ []
