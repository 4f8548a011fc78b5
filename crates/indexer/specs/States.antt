-- What the share of a worker says of the worker's findings so far.
use Rattle.std.specs.Prelude.{◌≡◌, ◌⊎◌, ◌+◌, ◌≤◌, Bool, true, false, List, [], ◌∷◌, ◌++◌, map, Contains, All, Result, Ok, Err}
use Rattle.std.specs.declared.alloc.AllocError.{AllocError}
use Rattle.std.specs.List.{flat_map}
use Rattle.firefly_outside.specs.Trees.{Path, child}
use Rattle.walker.specs.Listings.{IsListingOf}
use Rattle.walker.specs.Pile.{AreApart}
use Rattle.walker.specs.declared.listing.Listing.{Listing}
use Rattle.word_index.specs.Index.{Index}
use Rattle.index_findings.specs.Pieces.{IsCovered}
use Rattle.index_findings.specs.Rest.{IsCoveredFile}
use Rattle.index_findings.specs.Visits.{IsFoundDir, IsFoundFile, dirs_listed}
use Rattle.index_findings.specs.declared.findings.Visit.{Visit}
use Rattle.index_findings.specs.declared.read_files.ReadFile.{ReadFile}
use Rattle.index_rule.specs.Children.{IsBelow}
use Rattle.index_rule.specs.Counting.{times}
use Rattle.index_rule.specs.Distinct.{AreDisjoint, AreDistinct}
use Rattle.index_rule.specs.Shares.{Share, covered, paths_put, paths_taken}

-- a walker listed directories that it took, each once; what it put was found in its listings; and
-- it did nothing with pieces
pub record HasWalked (root : Path) (visits : List Visit) (s : Share) : Type 0 where
  pub lawful : All (λ v. IsListingOf v.dir v.listing) visits
  pub once : AreDistinct (dirs_listed visits)
  pub took : All (Contains s.took) (dirs_listed visits)
  pub dirs : All (IsFoundDir visits) s.put
  pub files : All (IsFoundFile visits) (paths_put root 1 s)
  pub no_pieces : paths_put root 2 s ≡ []
  pub no_merges : paths_taken root 2 s ≡ []

-- a directory was listed, and its listing was kept; these are the directories and files found in it
pub record KeepsListing (dir : Path) (old new : List Visit) (ds fs : List Path) : Type 0 where
  pub listing : Listing
  pub lawful : IsListingOf dir listing
  pub kept : new ≡ old ++ (record { dir = dir; listing = listing }) ∷ []
  pub dirs : ds ≡ listing.dirs.items
  pub files : fs ≡ listing.files.items

-- the files that a parser has, or has put in pieces: those of the read files, of the pieces that it kept,
-- and of those that it put
abbrev pub accounted : Path → List Path → List Index → Share → List Path
accounted root loaded kept s = loaded ++ (flat_map (covered root) kept ++ paths_put root 2 s)

-- a parser has each of these files once, and took it from the buffer; unless something was lost
-- they are the files that it read; and it did nothing else
pub record HasGathered (root : Path) (loaded : List Path) (kept : List Index) (files : List Path) (lost : Bool) (s : Share) : Type 0 where
  pub once : AreDistinct (accounted root loaded kept s)
  pub took : All (Contains (paths_taken root 1 s)) (accounted root loaded kept s)
  pub below : All (IsBelow root) loaded
  pub files_once : AreDistinct files
  pub files_took : All (Contains (paths_taken root 1 s)) files
  pub same : lost ≡ false → (p : Path) → times p files ≡ times p (accounted root loaded kept s)
  pub no_dirs : s.put ≡ []
  pub no_files : paths_put root 1 s ≡ []
  pub no_merges : paths_taken root 2 s ≡ []

-- pieces were handed on: of their files and those of the pieces that were kept, these were put, and
-- the others are kept; all of them, unless something was lost
pub record IsPassedOn (root : Path) (new put : List Path) (old kept : List Index) (all : Bool) : Type 0 where
  pub among : All (Contains new) put
  pub most : (p : Path) → times p (flat_map (covered root) kept) + times p put ≤ times p new + times p (flat_map (covered root) old)
  pub same : all ≡ true → (p : Path)
      → times p (flat_map (covered root) kept) + times p put ≡ times p new + times p (flat_map (covered root) old)

-- pieces that may be put: the thread took each of their files, and none of these is in them twice,
-- or was put
pub record MayPutPieces (root : Path) (pieces : List Index) (s : Share) : Type 0 where
  pub took : All (Contains (paths_taken root 1 s)) (flat_map (covered root) pieces)
  pub once : AreDistinct (flat_map (covered root) pieces)
  pub new : AreDisjoint (flat_map (covered root) pieces) (paths_put root 2 s)

-- a file was read into a list of read files; or it wasn't read, or it was read and lost
abbrev pub ReadsInto : Path → List Path → List Path → List Path → Bool → Type 0
ReadsInto path old new more lost = ((more ≡ path ∷ []) × (new ≡ old ++ path ∷ []))
    ⊎ ((new ≡ old) × ((more ≡ []) ⊎ ((more ≡ path ∷ []) × (lost ≡ true))))

abbrev pub lot_paths : List ReadFile → List Path
lot_paths files = map (λ f. f.path) files

-- a merger's pieces have no file twice, and cover only files of the pieces that it took, and all of
-- those unless something was lost; and it did nothing else
pub record HasMerged (root : Path) (kept : List Index) (lost : Bool) (s : Share) : Type 0 where
  pub apart : AreApart kept
  pub held : (name : Path) → IsCovered kept name → Contains (paths_taken root 2 s) (child root name)
  pub merged : lost ≡ false → (p : Path) → Contains (paths_taken root 2 s) p → IsCoveredFile root kept p
  pub no_dirs : s.put ≡ []
  pub no_files : paths_put root 1 s ≡ []
  pub no_pieces : paths_put root 2 s ≡ []

-- whether a turn of a merger lost a piece
abbrev pub merge_lost : Result Bool AllocError → Bool
merge_lost (Ok more) = false
merge_lost (Err e) = true
