-- What the closing walk answers.
use Rattle.std.specs.Prelude.{◌≡◌, ◌≢◌, ℕ, ◌+◌, ◌≤◌, List, [], ◌∷◌, ◌++◌, map, Option, Some, Contains, AllPairs, ◌⊎◌}
use Rattle.firefly_outside.specs.Causes.{Rose}
use Rattle.firefly_outside.specs.Trees.{Path, Contents, Calls, child}
use Rattle.firefly_outside.specs.Under.{IsUnder, IsThere, AreMany}
use Rattle.firefly_outside.specs.declared.tree.Kind.{Kind}
use Rattle.firefly_outside.specs.declared.tree.Kind.TheVariants.{File, Dir}
use Rattle.word_index.specs.Index.{Index}
use Rattle.walker.specs.Walk.{Walk, IsListed}
use Rattle.walker.specs.TreeIndex.{IsTreeIndex}
use Rattle.walker.specs.declared.answer.WalkAnswer.{WalkAnswer}
use Rattle.walker.specs.declared.answer.WalkAnswer.TheVariants.{Done, Stopped, ReadFault, TooMany, Memory}

-- the most directories of a tree that is indexed
abbrev pub most_dirs : ℕ
most_dirs = 1000000

-- the count rose only where a fault is answered, and else stays
abbrev pub HasRisen : ℕ → ℕ → WalkAnswer → Type 0
HasRisen before now (Done piece) = now ≡ before
HasRisen before now (Stopped many) = now ≡ before
HasRisen before now (ReadFault path) = (before ≤ now) × Rose before now
HasRisen before now (TooMany many) = now ≡ before
HasRisen before now Memory = now ≡ before

-- the numbers of the answers
abbrev pub IsNumbered : Option ℕ → WalkAnswer → Type 0
IsNumbered stop (Done piece) = Unit {0}
IsNumbered stop (Stopped many) = (n : ℕ) × (stop ≡ Some n) × (many ≡ n + 1)
IsNumbered stop (ReadFault path) = Unit {0}
IsNumbered stop (TooMany many) = many ≡ most_dirs + 1
IsNumbered stop Memory = Unit {0}

-- all is indexed, and neither limit is passed
pub record IsWhole (t : Contents) (root : Path) (stop : Option ℕ) (piece : Index) : Type 0 where
  pub index : IsTreeIndex t root piece
  pub dirs : ¬ AreMany t root Dir (most_dirs + 1)
  pub files : (n : ℕ) → stop ≡ Some n → ¬ AreMany t root File (n + 1)

-- a path under the root that may fail, or at which the tree hasn't what its entry says
pub record IsFaultUnder (t : Contents) (root : Path) (weak : List Path) (path : Path) : Type 0 where
  pub kind : Kind
  pub under : IsUnder t root kind path
  pub may : Contains weak path ⊎ ¬ IsThere t kind path

-- what the answers say of a tree that shows its contents
abbrev pub Answers : Path → Option ℕ → List Path → WalkAnswer → Contents → Type 0
Answers root stop weak (Done piece) t = IsWhole t root stop piece
Answers root stop weak (Stopped many) t = AreMany t root File many
Answers root stop weak (ReadFault path) t = IsFaultUnder t root weak path
Answers root stop weak (TooMany many) t = AreMany t root Dir many
Answers root stop weak Memory t = Unit {0}

-- the paths that failed
abbrev pub failed_by : WalkAnswer → List Path
failed_by (Done piece) = []
failed_by (Stopped many) = []
failed_by (ReadFault path) = path ∷ []
failed_by (TooMany many) = []
failed_by Memory = []

abbrev pub IsDone : WalkAnswer → Type 0
IsDone (Done piece) = Unit {0}
IsDone (Stopped many) = ⊥
IsDone (ReadFault path) = ⊥
IsDone (TooMany many) = ⊥
IsDone Memory = ⊥

-- the calls of a walk: it lists directories under the root that weren't listed and reads files under it that aren't covered,
-- each once, and where it is done it has listed and read them all
pub record CallsOnce (t : Contents) (w : Walk) (covered : List Path) (old new : Calls) (answer : WalkAnswer) : Type 0 where
  pub dirs : List Path
  pub listed : new.listed ≡ old.listed ++ dirs
  pub dirs_once : AllPairs (λ p q. p ≢ q) dirs
  pub dirs_new : (p : Path) → Contains dirs p → ¬ IsListed w p
  pub dirs_under : (p : Path) → Contains dirs p → IsUnder t w.root Dir p
  pub dirs_all : IsDone answer → (p : Path) → IsUnder t w.root Dir p → IsListed w p ⊎ Contains dirs p
  pub files : List Path
  pub read : new.files_read ≡ old.files_read ++ files
  pub files_once : AllPairs (λ p q. p ≢ q) files
  pub files_new : (p : Path) → Contains covered p → ¬ Contains files (child w.root p)
  pub files_under : (p : Path) → Contains files p → IsUnder t w.root File p
  pub files_all : IsDone answer → (p : Path) → IsUnder t w.root File p → Contains (map (child w.root) covered) p ⊎ Contains files p
  pub failed : new.failed ≡ old.failed ++ failed_by answer
