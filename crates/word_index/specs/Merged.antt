-- The places of two rows in one.
use Rattle.std.specs.Prelude.{◌≡◌, ℕ, ◌<◌, List, [], ◌∷◌, ◌++◌, IsPermutation}
use Rattle.std.specs.List.{AllPairs}
use Rattle.word_index.specs.declared.rows.Place.{Place}

abbrev pub nowhere : Place
nowhere = record { path = 0; count = 0; line = 0 }

abbrev pub IsPathBelow : Place → Place → Type 0
IsPathBelow x y = x.path < y.path

-- the row has the places of both, in the order of their paths
pub record AreMerged (xs ys row : List Place) : Type 0 where
  pub same : IsPermutation (xs ++ ys) row
  pub rising : AllPairs IsPathBelow row

-- such a row was added to a block
pub record AddsMerged (xs ys old new : List Place) : Type 0 where
  pub row : List Place
  pub is : new ≡ old ++ row
  pub merged : AreMerged xs ys row

-- such a row was added to the rows
pub record PushesMerged (xs ys : List Place) (old new : List (List Place)) : Type 0 where
  pub row : List Place
  pub is : new ≡ old ++ row ∷ []
  pub merged : AreMerged xs ys row
