-- What a thread's share says of its findings.
use Rattle.std.specs.Prelude.{◌≡◌, ◌⊎◌, false, List, [], Contains, All}
use Rattle.firefly_outside.specs.Trees.{Path}
use Rattle.walker.specs.Pile.{AreApart}
use Rattle.index_findings.specs.declared.findings.Findings.{Findings}
use Rattle.index_findings.specs.Rest.{IsCoveredFile}
use Rattle.index_findings.specs.Visits.{IsFoundDir, IsFoundFile, dirs_listed}
use Rattle.index_rule.specs.Distinct.{AreDistinct}
use Rattle.index_rule.specs.Shares.{Share, IsHeldBy, paths_put, paths_taken}

-- the thread took the directories that it listed, each once; the directories and files that it put
-- were found in its listings; and no file of its pieces is in two of them or with another thread
pub record HasShare (root : Path) (found : Findings) (r : Share) : Type 0 where
  pub once : AreDistinct (dirs_listed found.visits.items)
  pub took : All (Contains r.took) (dirs_listed found.visits.items)
  pub dirs : All (IsFoundDir found.visits.items) r.put
  pub files : All (IsFoundFile found.visits.items) (paths_put root 1 r)
  pub apart : AreApart found.pieces.items
  pub held : (p : Path) → IsCoveredFile root found.pieces.items p → IsHeldBy root r p

-- the files that the thread read, each once: it took them from the buffer, and each is in one of
-- its pieces or in one that it put, and no other files are; and the pieces that it took are in its
-- own
pub record HasRead (root : Path) (files : List Path) (found : Findings) (r : Share) : Type 0 where
  pub once : AreDistinct files
  pub took : All (Contains (paths_taken root 1 r)) files
  pub kept : (p : Path) → Contains files p → IsCoveredFile root found.pieces.items p ⊎ Contains (paths_put root 2 r) p
  pub put : (p : Path) → Contains (paths_put root 2 r) p → Contains files p
  pub made : (p : Path) → IsCoveredFile root found.pieces.items p → Contains files p ⊎ Contains (paths_taken root 2 r) p
  pub merged : (p : Path) → Contains (paths_taken root 2 r) p → IsCoveredFile root found.pieces.items p

-- both hold, the second unless something was lost
pub record IsLeft (root : Path) (files : List Path) (found : Findings) (r : Share) : Type 0 where
  pub has : HasShare root found r
  pub read : found.lost ≡ false → HasRead root files found r

-- the thread put nothing, and took no piece
pub record IsStill (root : Path) (s : Share) : Type 0 where
  pub dirs : s.put ≡ []
  pub files : paths_put root 1 s ≡ []
  pub pieces : paths_put root 2 s ≡ []
  pub merges : paths_taken root 2 s ≡ []
