-- Each directory is listed once, and each file is read once.
use Rattle.std.specs.Prelude.{◌≡◌, ◌≢◌, ◌↔◌, ℕ, ◌<◌, List, ◌++◌, length, Option, Some, None, IfSome, Contains, AllPairs, slice_index_or}
use Rattle.std.specs.List.{flat_map}
use Rattle.std.proofs.Common.{suc}
use mathlib.Core.Option.{some}
use lib.ListN.{get_elem?}
use Rattle.firefly_outside.specs.Trees.{Path, Contents, Calls}
use Rattle.firefly_outside.specs.Under.{IsUnder}
use Rattle.firefly_outside.specs.declared.tree.Kind.TheVariants.{File, Dir}
use Rattle.word_index.specs.Index.{Index}
use Rattle.index_findings.specs.Rest.{IsCoveredFile}
use Rattle.index_findings.specs.Visits.{dirs_listed}
use Rattle.index_findings.specs.declared.findings.Visit.{Visit}
use Rattle.indexer.specs.declared.answer.IndexAnswer.{IndexAnswer}
use Rattle.indexer.specs.declared.answer.IndexAnswer.TheVariants.{Done, Stopped, ReadFault, TooMany, Memory}

-- lists of paths, one after the other
abbrev pub joined : List (List Path) → List Path
joined lists = flat_map (λ ps. ps) lists

module _ {S : Type 0} (calls : S → Calls) where
  -- a list of paths for each of the first n trees and the next: those that were listed or read on
  -- it since
  pub record AreSince (of : Calls → List Path) (n : ℕ) (old new : List (Option S)) (lists : List (List Path)) : Type 0 where
    pub many : length lists ≡ suc n
    pub since : (k : ℕ) (s r : S) (paths : List Path) → slice_index_or old k None ≡ Some s → slice_index_or new k None ≡ Some r
        → get_elem? lists k ≡ some paths → of (calls r) ≡ of (calls s) ++ paths

  -- over these trees together the directories under the root were listed since, each once, and the
  -- files under it were read, each once
  pub record IsEachOnce (t : Contents) (root : Path) (n : ℕ) (old new : List (Option S)) : Type 0 where
    pub listed : List (List Path)
    pub listed_since : AreSince (λ c. c.listed) n old new listed
    pub listed_once : AllPairs (λ p q. p ≢ q) (joined listed)
    pub listed_all : (p : Path) → IsUnder t root Dir p ↔ Contains (joined listed) p
    pub read : List (List Path)
    pub read_since : AreSince (λ c. c.files_read) n old new read
    pub read_once : AllPairs (λ p q. p ≢ q) (joined read)
    pub read_all : (p : Path) → IsUnder t root File p ↔ Contains (joined read) p

  -- over the first n trees together the directories of these listings were listed since, each once,
  -- and the files of these pieces were read, each once
  pub record IsWorkedOnce (root : Path) (n : ℕ) (old new : List (Option S)) (visits : List Visit) (pieces : List Index) : Type 0 where
    pub listed : List (List Path)
    pub listed_many : length listed ≡ n
    pub listed_since : (k : ℕ) (s r : S) (paths : List Path) → k < n → slice_index_or old k None ≡ Some s
        → slice_index_or new k None ≡ Some r → get_elem? listed k ≡ some paths → (calls r).listed ≡ (calls s).listed ++ paths
    pub listed_once : AllPairs (λ p q. p ≢ q) (joined listed)
    pub listed_all : (p : Path) → Contains (dirs_listed visits) p ↔ Contains (joined listed) p
    pub read : List (List Path)
    pub read_many : length read ≡ n
    pub read_since : (k : ℕ) (s r : S) (paths : List Path) → k < n → slice_index_or old k None ≡ Some s → slice_index_or new k None ≡ Some r
        → get_elem? read k ≡ some paths → (calls r).files_read ≡ (calls s).files_read ++ paths
    pub read_once : AllPairs (λ p q. p ≢ q) (joined read)
    pub read_all : (p : Path) → IsCoveredFile root pieces p ↔ Contains (joined read) p

  -- if there is an index and the trees' contents are known, each directory was listed once and each
  -- file read once
  abbrev pub EachOnce : Option Contents → Path → ℕ → List (Option S) → List (Option S) → IndexAnswer → Type 0
  EachOnce o root n old new (Done piece closed) = IfSome o (λ t. IsEachOnce t root n old new)
  EachOnce o root n old new (Stopped many) = Unit {0}
  EachOnce o root n old new (ReadFault path) = Unit {0}
  EachOnce o root n old new (TooMany many) = Unit {0}
  EachOnce o root n old new Memory = Unit {0}
