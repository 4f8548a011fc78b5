-- The listings of a run, put together.
use Rattle.std.specs.Prelude.{◌≡◌, ◌≢◌, ◌⊎◌, ◌↔◌, List, map, Contains, AllPairs}
use Rattle.firefly_outside.specs.Trees.{Path, child}
use Rattle.walker.specs.Walk.{Walk, IsListed, dirs_of, files_of}
use Rattle.word_index.specs.Index.{Index}
use Rattle.index_findings.specs.declared.findings.Visit.{Visit}
use Rattle.index_findings.specs.Pieces.{IsCovered}

abbrev pub dirs_listed : List Visit → List Path
dirs_listed visits = map (λ v. v.dir) visits

-- one of the listings has the directory
pub record IsFoundDir (visits : List Visit) (path : Path) : Type 0 where
  pub visit : Visit
  pub among : Contains visits visit
  pub found : Contains visit.listing.dirs.items path

-- one of the listings has the file
pub record IsFoundFile (visits : List Visit) (path : Path) : Type 0 where
  pub visit : Visit
  pub among : Contains visits visit
  pub found : Contains visit.listing.files.items path

-- no directory was listed twice, and each is the root or was found in one of the listings
pub record AreVisits (root : Path) (visits : List Visit) : Type 0 where
  pub once : AllPairs (λ p q. p ≢ q) (dirs_listed visits)
  pub found : (p : Path) → Contains (dirs_listed visits) p → (p ≡ root) ⊎ IsFoundDir visits p

-- the files that the pieces cover were found in the listings
abbrev pub AreFound : Path → List Visit → List Index → Type 0
AreFound root visits pieces = (p : Path) → IsCovered pieces p → IsFoundFile visits (child root p)

-- the walk has found the root and what these listings have, and has listed their directories and no others
pub record HasNoted (root : Path) (done : List Visit) (w : Walk) : Type 0 where
  pub same : w.root ≡ root
  pub listed : (p : Path) → IsListed w p ↔ Contains (dirs_listed done) p
  pub dirs : (p : Path) → (p ≡ root) ⊎ IsFoundDir done p → Contains (dirs_of w) p
  pub files : (p : Path) → IsFoundFile done p → Contains (files_of w) p
