-- The paths that a query means.
use Rattle.std.specs.Prelude.{ℕ, List, ◌⊎◌, ◌↔◌, Contains}
use Rattle.word_index.specs.Index.{Row, IsRising}
use Rattle.index_table.specs.Rows.{HasFile, HasPath}
use Rattle.index_find.specs.Tree.{Tree, Word, Not, Both, Either}

-- A word means the paths of its files. What a tree doesn't mean is meant among the paths of all rows.
abbrev pub Means : List Row → Tree → List ℕ → Type 0
Means rows (Word w) path = HasFile rows w path
Means rows (Not t) path = HasPath rows path × ¬ Means rows t path
Means rows (Both x y) path = Means rows x path × Means rows y path
Means rows (Either x y) path = Means rows x path ⊎ Means rows y path

-- the paths that the tree means, in the order of their bytes, each once
pub record AreMeant (rows : List Row) (tree : Tree) (paths : List (List ℕ)) : Type 0 where
  pub rising : IsRising paths
  pub each : (p : List ℕ) → Contains paths p ↔ Means rows tree p
