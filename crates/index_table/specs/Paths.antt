-- Paths, each once, with their numbers.
use Rattle.std.specs.Prelude.{String, ◌≡◌, ◌⊎◌, ◌↔◌, ℕ, ◌<◌, List, [], ◌∷◌, ◌++◌, length, map, slice_index, slice_index_or}
use Rattle.std.specs.List.{All, Contains}
use Rattle.std.specs.String.{string_bytes}
use Rattle.word_index.specs.Index.{IsRising}

-- each value's rank is a place at which it stands
abbrev pub AreRanks : List ℕ → List ℕ → Type 0
AreRanks vs ranks = (k : ℕ) → k < length vs → (slice_index ranks (slice_index vs k) < length vs)
    × (slice_index vs (slice_index ranks (slice_index vs k)) ≡ slice_index vs k)

module _ {A : Type 0} where
  abbrev pub texts : List (String A × ℕ) → List (List ℕ)
  texts entries = map (λ e. string_bytes e.0) entries

  abbrev pub values : List (String A × ℕ) → List ℕ
  values entries = map (λ e. e.1) entries

  -- each has its place for its number
  abbrev pub AreNumbered : List (String A × ℕ) → Type 0
  AreNumbered entries = (k : ℕ) → k < length entries → slice_index (values entries) k ≡ k

  -- the path has the number n; where it wasn't there, it is the last now
  pub record Grows (old new : List (String A × ℕ)) (path : List ℕ) (n : ℕ) : Type 0 where
    pub numbered : AreNumbered new
    pub within : n < length new
    pub here : slice_index_or (texts new) n [] ≡ path
    pub rest : (new ≡ old) ⊎ ((texts new ≡ texts old ++ path ∷ []) × (n ≡ length old))

  -- the paths rise now, and the numbers name the same ones
  pub record IsRanked (old new : List (String A × ℕ)) (ns ms : List ℕ) : Type 0 where
    pub rising : IsRising (texts new)
    pub many : length new ≡ length old
    pub ranks : List ℕ
    pub numbers : ms ≡ map (slice_index ranks) ns
    pub within : All (λ n. slice_index ranks n < length new) ns
    pub same : All (λ n. slice_index_or (texts new) (slice_index ranks n) [] ≡ slice_index_or (texts old) n []) ns
    pub members : (p : List ℕ) → Contains (texts new) p ↔ Contains (texts old) p
