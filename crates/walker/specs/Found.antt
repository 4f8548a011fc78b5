-- Paths below a root, and paths that aren't found yet.
use Rattle.std.specs.Prelude.{◌≡◌, ◌≢◌, ◌++◌, ◌∷◌, [], List, Contains, AllPairs, drop, length, map}
use Rattle.firefly_outside.specs.Trees.{Path, child, slash}

-- the path is the root, a slash and more
abbrev pub IsBelow : Path → Path → Type 0
IsBelow root path = (q : Path) × (path ≡ child root q)

abbrev pub AreBelow : Path → List Path → Type 0
AreBelow root paths = (p : Path) → Contains paths p → IsBelow root p

-- the path without the root and the slash after it
abbrev pub name_in : Path → Path → Path
name_in root path = drop (length (root ++ slash ∷ [])) path

abbrev pub names_in : Path → List Path → List Path
names_in root paths = map (name_in root) paths

-- none of them is among the old ones, and no two are the same
pub record AreNew (old more : List Path) : Type 0 where
  pub fresh : (p : Path) → Contains more p → ¬ Contains old p
  pub distinct : AllPairs (λ p q. p ≢ q) more
