-- Marks on the paths of an index, one for each.
use Rattle.std.specs.Prelude.{◌≡◌, ◌↔◌, ℕ, ◌+◌, ◌-◌, ◌<◌, ◌≤◌, List, [], ◌∷◌, ◌++◌, Bool, true, false, length, slice_index_or, Contains}
use Rattle.word_index.specs.Index.{IsRising}
use Rattle.index_table.specs.Rows.{Contents}
use Rattle.index_find.specs.Tree.{Tree}
use Rattle.index_find.specs.declared.query.Step.{Step}
use Rattle.index_find.specs.declared.query.Step.TheVariants as step
use Rattle.index_find.specs.Meaning.{Means}

abbrev pub at : List Bool → ℕ → Bool
at marks k = slice_index_or marks k false

abbrev pub path_at : List (List ℕ) → ℕ → List ℕ
path_at paths k = slice_index_or paths k []

-- a path is marked where the tree means it
pub record AreMarks (index : Contents) (tree : Tree) (marks : List Bool) : Type 0 where
  pub many : length marks ≡ length index.paths
  pub each : (k : ℕ) → k < length index.paths → (at marks k ≡ true) ↔ Means index.rows tree (path_at index.paths k)

-- the last marks are those of this tree, and the others are so
pub record IsOnTop (index : Contents) (tree : Tree) (AreBelow : List (List Bool) → Type 0) (stack : List (List Bool)) : Type 0 where
  pub below : List (List Bool)
  pub top : List Bool
  pub is : stack ≡ below ++ top ∷ []
  pub marks : AreMarks index tree top
  pub rest : AreBelow below

-- the marks of some trees, of which the last stands first
abbrev pub AreStacked : Contents → List Tree → List (List Bool) → Type 0
AreStacked index [] stack = stack ≡ []
AreStacked index (t ∷ ts) stack = IsOnTop index t (AreStacked index ts) stack

-- how many trees a step joins
abbrev pub joined : Step → ℕ
joined (step.Word w) = 0
joined step.Not = 1
joined step.Both = 2
joined step.Either = 2

-- so many trees are enough for the steps
abbrev pub Suffice : List Step → ℕ → Type 0
Suffice [] n = Unit {0}
Suffice (s ∷ ss) n = (joined s ≤ n) × Suffice ss (n + 1 - joined s)

-- the marked ones of the first n paths, in their order
pub record AreChosen (marks : List Bool) (paths : List (List ℕ)) (n : ℕ) (texts : List (List ℕ)) : Type 0 where
  pub rising : IsRising texts
  pub each : (p : List ℕ) → Contains texts p ↔ ((k : ℕ) × (k < n) × (at marks k ≡ true) × (path_at paths k ≡ p))
