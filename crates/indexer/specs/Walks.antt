-- The calls that a worker with a tree has made.
use Rattle.std.specs.Prelude.{◌≡◌, ◌⊎◌, ℕ, ◌+◌, ◌≤◌, Bool, true, false, List, [], ◌∷◌, ◌++◌, length, map, Option, Some, None, IfSome, Contains, All, Result, Ok, Err}
use Rattle.firefly_outside.specs.Causes.{Rose}
use Rattle.firefly_outside.specs.Trees.{Path, Contents, Calls}
use Rattle.firefly_outside.specs.Under.{IsThere}
use Rattle.firefly_outside.specs.declared.tree.Kind.{Kind}
use Rattle.firefly_outside.specs.declared.tree.Kind.TheVariants.{File, Dir}
use Rattle.walker.specs.Listings.{IsListingOf, IsReportedBy}
use Rattle.word_index.specs.Index.{Index}
use Rattle.index_findings.specs.declared.findings.Fault.{Fault}
use Rattle.index_findings.specs.declared.findings.Visit.{Visit}
use Rattle.index_findings.specs.Faults.{path_of, kind_of}
use Rattle.indexer.specs.declared.work_end.WorkEnd.{WorkEnd}
use Rattle.indexer.specs.declared.work_end.WorkEnd.TheVariants.{Over, Lost, Failed}
use Rattle.indexer.specs.Turns.{Worker, Run, ComesBack, release_count}

-- the listing is one of its directory, and the tree's own if the tree's contents are known
pub record IsVisit (tree : Option Contents) (v : Visit) : Type 0 where
  pub lawful : IsListingOf v.dir v.listing
  pub reported : IfSome tree (λ t. IsReportedBy t v.dir v.listing)

-- the count rose if a path failed, and stays otherwise
abbrev pub FaultCounts : ℕ → ℕ → Option Fault → Type 0
FaultCounts before now None = now ≡ before
FaultCounts before now (Some fault) = (before ≤ now) × Rose before now

-- the path may fail, or is in the tree, if at all, as something of another kind
abbrev pub MayFail : List Path → Contents → Fault → Type 0
MayFail weak t fault = Contains weak (path_of fault) ⊎ ¬ IsThere t (kind_of fault) (path_of fault)

abbrev pub paths_of : Option Fault → List Path
paths_of None = []
paths_of (Some fault) = path_of fault ∷ []

-- the calls with these directories listed, or these files read, and with these paths that failed
abbrev pub calls_with : Kind → List Path → List Path → Calls → Calls
calls_with Dir paths failed c = record { listed = c.listed ++ paths; files_read = c.files_read; failed = c.failed ++ failed }
calls_with File paths failed c = record { listed = c.listed; files_read = c.files_read ++ paths; failed = c.failed ++ failed }

-- the mutex that is released for each directory listed, or for each file read
abbrev pub mutex_of : Kind → ℕ
mutex_of Dir = 0
mutex_of File = 1

-- the listings of these directories were kept, in the order in which they were made
abbrev pub HasKept : Kind → List Path → List Visit → Type 0
HasKept Dir paths visits = paths ≡ map (λ v. v.dir) visits
HasKept File paths visits = Unit {0}

-- directories were listed, or files read, and nothing else was done, except that this failed, if
-- anything did; the mutex was released before each of them, and `spare` more times; and if nothing
-- was lost, each listing was kept
pub record CalledOnly (kind : Kind) (weak : List Path) (before now : Calls) (visits : List Visit) (fault : Option Fault) (lost : Bool)
    (spare : ℕ) (a b : Worker) (t : Contents) : Type 0 where
  pub paths : List Path
  pub kept : lost ≡ false → HasKept kind paths visits
  pub made : now ≡ calls_with kind paths (paths_of fault) before
  pub may : IfSome fault (MayFail weak t)
  pub times : length paths + spare + release_count (mutex_of kind) a.mine ≤ release_count (mutex_of kind) b.mine

-- the worker went from a to b by calls of one kind on its tree, and has these listings and pieces;
-- this failed, if anything did, and something may be lost
pub record HasDone (kind : Kind) (tree : Option Contents) (root : Path) (weak : List Path) (count then_count : ℕ) (before now : Calls) (p : Run)
    (spare : ℕ) (a b : Worker)
    (visits : List Visit) (pieces : List Index) (fault : Option Fault) (lost : Bool) : Type 0 where
  pub back : ComesBack tree root pieces p a b
  pub each : All (IsVisit tree) visits
  pub counts : FaultCounts count then_count fault
  pub reported : IfSome tree (CalledOnly kind weak before now visits fault lost spare a b)

-- what failed, if anything did
abbrev pub fault_in : WorkEnd → Option Fault
fault_in Over = None
fault_in Lost = None
fault_in (Failed fault) = Some fault

abbrev pub fault_of : {T : Type 0} → Result T WorkEnd → Option Fault
fault_of (Ok v) = None
fault_of (Err end) = fault_in end

-- whether something may be lost
abbrev pub is_lost : WorkEnd → Bool
is_lost Over = false
is_lost Lost = true
is_lost (Failed fault) = false

abbrev pub lost_of : {T : Type 0} → Result T WorkEnd → Bool
lost_of (Ok v) = false
lost_of (Err end) = is_lost end
