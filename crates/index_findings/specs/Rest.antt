-- What the closing walk does beside the workers.
use Rattle.std.specs.Prelude.{◌≡◌, ◌≢◌, ◌⊎◌, ◌↔◌, List, ◌++◌, Contains, AllPairs}
use Rattle.firefly_outside.specs.Trees.{Path, Contents, Calls, child}
use Rattle.firefly_outside.specs.Under.{IsUnder}
use Rattle.firefly_outside.specs.declared.tree.Kind.TheVariants.{File, Dir}
use Rattle.word_index.specs.Index.{Index}
use Rattle.walker.specs.Closing.{CallsOnce, IsDone}
use Rattle.walker.specs.Walk.{Walk}
use Rattle.walker.specs.declared.answer.WalkAnswer.{WalkAnswer}
use Rattle.index_findings.specs.declared.findings.Visit.{Visit}
use Rattle.index_findings.specs.Pieces.{IsCovered}
use Rattle.index_findings.specs.Visits.{dirs_listed}

-- one of the pieces covers the file, whose whole path this is
pub record IsCoveredFile (root : Path) (pieces : List Index) (path : Path) : Type 0 where
  pub name : Path
  pub is : path ≡ child root name
  pub covered : IsCovered pieces name

-- what no listing has listed was listed, and what no piece covers was read, each once; where the index is answered, these and those are all
-- that lies under the root
pub record CallsRest (t : Contents) (root : Path) (visits : List Visit) (pieces : List Index) (before now : Calls) (answer : WalkAnswer) :
    Type 0 where
  pub dirs : List Path
  pub listed : now.listed ≡ before.listed ++ dirs
  pub dirs_once : AllPairs (λ p q. p ≢ q) dirs
  pub dirs_new : (p : Path) → Contains dirs p → ¬ Contains (dirs_listed visits) p
  pub dirs_all : IsDone answer → (p : Path) → IsUnder t root Dir p ↔ (Contains (dirs_listed visits) p ⊎ Contains dirs p)
  pub files : List Path
  pub read : now.files_read ≡ before.files_read ++ files
  pub files_once : AllPairs (λ p q. p ≢ q) files
  pub files_new : (p : Path) → Contains files p → ¬ IsCoveredFile root pieces p
  pub files_all : IsDone answer → (p : Path) → IsUnder t root File p ↔ (IsCoveredFile root pieces p ⊎ Contains files p)

-- the same beside a walk
pub record WalksRest (t : Contents) (w : Walk) (pieces : List Index) (before now : Calls) (answer : WalkAnswer) : Type 0 where
  pub covered : List Path
  pub covers : (p : Path) → Contains covered p ↔ IsCovered pieces p
  pub once : CallsOnce t w covered before now answer
