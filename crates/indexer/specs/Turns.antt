-- A worker between its calls, and while it holds the list of directories.
use Rattle.std.specs.Prelude.{◌≡◌, ℕ, ◌+◌, ◌≤◌, Bool, false, eqb, List, [], ◌∷◌, ◌++◌, count_by, slice_set, Option, Some, All}
use Rattle.firefly_outside.specs.Trees.{Path, Contents}
use Rattle.larch_actions.specs.declared.event.Event.{Event}
use Rattle.larch_actions.specs.declared.event.Layout.{Layout}
use Rattle.larch_actions.specs.declared.event.Action.{Action}
use Rattle.larch_actions.specs.declared.event.Action.TheVariants.{Release}
use Rattle.nub_rule.specs.Known.{Known, Shape, Holds}
use Rattle.nub_rule.specs.Plays.{broadcast_action, event}
use Rattle.nub.specs.Idle.{IsIdle}
use Rattle.nub.specs.Rest.{AtRest, IsSame}
use Rattle.word_index.specs.Index.{Index}
use Rattle.index_findings.specs.Pieces.{IsFilesPiece}
use Rattle.index_rule.specs.declared.value.DirsInWork.{DirsInWork}
use Rattle.index_rule.specs.declared.value.IndexValue.{IndexValue}
use Rattle.indexer.specs.Pieces.{IsPieceItem, AllPut, AllTaken}
use Rattle.index_rule.specs.Shares.{Share, blank}
use Rattle.index_rule.specs.Work.{IsAfter, IsNewTo, dirs_of, files_of, waiting_of}

abbrev pub Worker : Type 0
Worker = Known IndexValue Share Path

abbrev pub Run : Type 0
Run = Shape Path

abbrev pub releases : ℕ → Action → Bool
releases m (Release k) = eqb k.0 m
releases m _ = false

-- how often the mutex m was released
abbrev pub release_count : ℕ → List Event → ℕ
release_count m es = count_by (λ e. releases m e.action) es

-- the layout has the list of directories, its condition, and both buffers with theirs
pub record HasLists (l : Layout) : Type 0 where
  pub mutexes : l.mutexes ≡ 3
  pub conditions : l.conditions ≡ 5

-- a share goes from s to r: if its thread had put only pieces of the tree at the buffer of pieces,
-- this still holds; and if it has taken only such pieces there, this held before too, and these
-- pieces are among them
pub record Passes (tree : Option Contents) (root : Path) (pieces : List Index) (s r : Share) : Type 0 where
  pub puts : AllPut (IsPieceItem tree root) 2 s → AllPut (IsPieceItem tree root) 2 r
  pub takes : AllTaken (IsPieceItem tree root) 2 r → AllTaken (IsPieceItem tree root) 2 s × All (IsFilesPiece tree root) pieces

-- a thread that was between two calls is so again
abbrev pub ComesBack : Option Contents → Path → List Index → Run → Worker → Worker → Type 0
ComesBack tree root pieces p a b = (n : ℕ) (s : Share) → IsIdle p n s a → (r : Share) × IsIdle p n r b × Passes tree root pieces s r

-- the worker is between two calls again, has these pieces, and has released the mutex m at least k
-- more times
pub record HasCalled (tree : Option Contents) (root : Path) (pieces : List Index) (p : Run) (m k : ℕ) (a b : Worker) : Type 0 where
  pub back : ComesBack tree root pieces p a b
  pub times : k + release_count m a.mine ≤ release_count m b.mine

-- since a the worker has acquired the list of directories and nothing else; it holds it in b, with
-- this value
pub record HasList (p : Run) (a : Worker) (x : IndexValue) (b : Worker) : Type 0 where
  pub rest : AtRest p b
  pub same : IsSame a b
  pub has : Holds b 0 x
  pub held : b.held ≡ slice_set a.held 0 (Some x)
  pub world : b.world ≡ Some p.world
  pub own : Share
  pub was : a.share ≡ Some own
  pub share : b.share ≡ Some own
  pub kind : IsAfter 0 x
  pub new : IsNewTo p.world 0 own x
  pub times : (m : ℕ) → release_count m a.mine ≤ release_count m b.mine

-- the state has what this value has
pub record IsAs (x : IndexValue) (d : DirsInWork) : Type 0 where
  pub waiting : d.list.waiting.items ≡ waiting_of x
  pub dirs : d.found.dirs ≡ dirs_of x
  pub files : d.found.files ≡ files_of x

-- the last thing that the thread did was to wake all threads that wait for the list of directories
abbrev pub HasWoken : Worker → Type 0
HasWoken b = (es : List Event) × (b.mine ≡ es ++ event b.number (broadcast_action 0 []) ∷ [])

-- the thread is between two calls
abbrev pub IsBetween : Run → Worker → Type 0
IsBetween p a = (n : ℕ) × (s : Share) × IsIdle p n s a

-- and has done nothing
abbrev pub IsReady : Run → Worker → Type 0
IsReady p a = (n : ℕ) × IsIdle p n blank a
