-- What a call adds to the share of its thread.
use Rattle.std.specs.Prelude.{◌≡◌, ℕ, ◌+◌, List, [], ◌++◌, Option, Some, None, Contains, All}
use Rattle.firefly_outside.specs.Trees.{Path, Contents}
use Rattle.word_index.specs.Index.{Index}
use Rattle.index_rule.specs.Distinct.{AreDisjoint, AreDistinct}
use Rattle.index_rule.specs.Shares.{Share, IsChildOfTook, paths_put, paths_taken, covered}
use Rattle.index_rule.specs.Children.{IsBelow}
use Rattle.indexer.specs.Turns.{Worker, Run, HasCalled}

-- directories taken and put; files put and taken, and files of pieces put and taken
pub record More : Type 0 where
  pub took : List Path
  pub put : List Path
  pub files_put : List Path
  pub files_taken : List Path
  pub pieces_put : List Path
  pub pieces_taken : List Path

abbrev pub nothing : More
nothing = record { took = []; put = []; files_put = []; files_taken = []; pieces_put = []; pieces_taken = [] }

-- the share r is s and this in addition
pub record Grows (root : Path) (more : More) (s r : Share) : Type 0 where
  pub took : r.took ≡ more.took ++ s.took
  pub put : r.put ≡ more.put ++ s.put
  pub files_put : paths_put root 1 r ≡ more.files_put ++ paths_put root 1 s
  pub files_taken : paths_taken root 1 r ≡ more.files_taken ++ paths_taken root 1 s
  pub pieces_put : paths_put root 2 r ≡ more.pieces_put ++ paths_put root 2 s
  pub pieces_taken : paths_taken root 2 r ≡ more.pieces_taken ++ paths_taken root 2 s

-- the share of the thread grew by this from a to b
abbrev pub Gets : Run → More → Worker → Worker → Type 0
Gets p more a b = (s : Share) → a.share ≡ Some s → (r : Share) × (b.share ≡ Some r) × Grows p.world more s r

-- the thread made a call, by which its share grew by this
pub record Makes (p : Run) (more : More) (a b : Worker) : Type 0 where
  pub called : (o : Option Contents) (root : Path) (m : ℕ) → HasCalled o root [] p m 0 a b
  pub gets : Gets p more a b

-- the thread counted this many more files
abbrev pub Counts : ℕ → Worker → Worker → Type 0
Counts files a b = (s : Share) → a.share ≡ Some s → (r : Share) × (b.share ≡ Some r) × (r.files ≡ s.files + files)

-- P holds of the share of the thread
abbrev pub OfShare : Worker → (Share → Type 0) → Type 0
OfShare a P = (s : Share) → a.share ≡ Some s → P s

-- children of directories that the thread took, which it may put: it has put none of them yet, and
-- none is here twice
pub record MayPutAll (found put : List Path) (s : Share) : Type 0 where
  pub from : All (IsChildOfTook s) found
  pub once : AreDistinct found
  pub new : AreDisjoint found put

-- the directories found may be put into the list, and the files into their buffer
pub record MayGive (root : Path) (ds fs : List Path) (s : Share) : Type 0 where
  pub dirs : MayPutAll ds s.put s
  pub files : MayPutAll fs (paths_put root 1 s) s

-- the file is new to the thread, and is below the root
pub record IsNewFile (root : Path) (path : Path) (s : Share) : Type 0 where
  pub new : ¬ Contains (paths_taken root 1 s) path
  pub below : IsBelow root path

-- the files of a piece that went into the buffer
abbrev pub given : Path → Option Index → Index → List Path
given root None piece = covered root piece
given root (Some back) piece = []

-- what a thread may get in addition as it changes the list of directories
abbrev pub moved_more : List Path → List Path → More
moved_more gone come = record nothing { took = gone; put = come }
