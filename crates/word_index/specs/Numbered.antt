-- Texts that stand in a longer list, by their numbers there.
use Rattle.std.specs.Prelude.{◌≡◌, ℕ, ◌<◌, List, [], length, slice_index, slice_index_or}
use Rattle.std.specs.List.{All, AllPairs}
use Rattle.word_index.specs.declared.rows.Place.{Place}

-- the first n of xs stand in all, at these numbers, which rise
pub record IsNumbered (xs all : List (List ℕ)) (numbers : List ℕ) (n : ℕ) : Type 0 where
  pub many : length numbers ≡ n
  pub within : All (λ m. m < length all) numbers
  pub rising : AllPairs (λ a b. a < b) numbers
  pub finds : (k : ℕ) → k < n → slice_index_or all (slice_index numbers k) [] ≡ slice_index_or xs k []

-- the place under the new number of its path
abbrev pub moved : List ℕ → Place → Place
moved numbers place = record { path = slice_index numbers place.path; count = place.count; line = place.line }

-- no number is in both
abbrev pub AreApart : List ℕ → List ℕ → Type 0
AreApart xs ys = (i j : ℕ) → i < length xs → j < length ys → slice_index xs i ≡ slice_index ys j → ⊥
