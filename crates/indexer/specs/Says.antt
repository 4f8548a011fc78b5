-- The answers of an index run.
use Rattle.std.specs.Prelude.{◌≡◌, ℕ, ◌+◌, ◌<◌, ◌≤◌, true, false, List, ◌++◌, length, Option, Some, None, IfSome, Contains, slice_index_or}
use Rattle.std.proofs.Common.{suc}
use mathlib.Core.Option.{some}
use lib.ListN.{get_elem?}
use Rattle.larch_actions.specs.declared.event.Event.{Event}
use Rattle.firefly_outside.specs.Causes.{Rose}
use Rattle.firefly_outside.specs.Trees.{Path, Contents, Calls}
use Rattle.firefly_outside.specs.Under.{IsUnder, AreMany}
use Rattle.firefly_outside.specs.declared.tree.Kind.{Kind}
use Rattle.firefly_outside.specs.declared.tree.Kind.TheVariants.{File, Dir}
use Rattle.nub.specs.Ended.{Ended, IsWhole as IsWholeHistory}
use Rattle.walker.specs.Closing.{IsWhole, IsFaultUnder, most_dirs}
use Rattle.walker.specs.declared.answer.WalkAnswer.{WalkAnswer}
use Rattle.walker.specs.declared.answer.WalkAnswer.TheVariants.{Done, Stopped, ReadFault, TooMany, Memory}
use Rattle.indexer.specs.declared.answer.IndexAnswer.{IndexAnswer}
use Rattle.indexer.specs.declared.answer.IndexAnswer.TheVariants.{Done as IndexDone, Stopped as IndexStopped, ReadFault as IndexReadFault, TooMany as IndexTooMany, Memory as IndexMemory}
use Rattle.indexer.specs.declared.plan.Plan.{Plan}
use Rattle.index_rule.specs.declared.value.IndexValue.{IndexValue}
use Rattle.indexer.specs.Jobs.{kind_at}
use Rattle.indexer.specs.Plans.{layout_of}
use Rattle.indexer.specs.Turns.{Worker, release_count}
use Rattle.index_rule.specs.Shares.{Share}

-- all trees have the contents o, or those of none are known
abbrev pub AllShow : {S : Type 0} → (S → Option Contents) → Option Contents → List (Option S) → Type 0
AllShow {S} tree o trees = (k : ℕ) (s : S) → slice_index_or trees k None ≡ Some s → tree s ≡ o

-- one more than are allowed
abbrev pub IsStop : Option ℕ → ℕ → Type 0
IsStop stop many = (n : ℕ) × (stop ≡ Some n) × (many ≡ n + 1)

-- what an answer says of a tree whose contents are known
abbrev pub WalkSays : Option Contents → Path → Option ℕ → WalkAnswer → Type 0
WalkSays o root stop (Done piece) = IfSome o (λ t. IsWhole t root stop piece)
WalkSays o root stop (Stopped many) = IsStop stop many × IfSome o (λ t. AreMany t root File many)
WalkSays o root stop (ReadFault path) = IfSome o (λ t. (kind : Kind) × IsUnder t root kind path)
WalkSays o root stop (TooMany many) = (many ≡ most_dirs + 1) × IfSome o (λ t. AreMany t root Dir many)
WalkSays o root stop Memory = Unit {0}

-- the closed package of the plan: there is a trace if the plan says so, and it is the whole history
pub record IsRunOf (plan : Plan) (c : Ended IndexValue Share Path) : Type 0 where
  pub layout : c.layout ≡ layout_of plan
  pub untraced : plan.traced ≡ false → c.trace ≡ None
  pub traced : plan.traced ≡ true → (h : List Event) × (c.trace ≡ Some h) × IsWholeHistory (layout_of plan) c.threads h

-- the answer of a run whose closing walk gave this answer
abbrev pub answer_of : WalkAnswer → Ended IndexValue Share Path → IndexAnswer
answer_of (Done piece) closed = IndexDone piece closed
answer_of (Stopped many) closed = IndexStopped many
answer_of (ReadFault path) closed = IndexReadFault path
answer_of (TooMany many) closed = IndexTooMany many
answer_of Memory closed = IndexMemory

-- the same for a run, and what Done says of its package
abbrev pub IndexSays : Option Contents → Path → Plan → IndexAnswer → Type 0
IndexSays o root plan (IndexDone piece closed) = WalkSays o root plan.stop_after (Done piece) × IsRunOf plan closed
IndexSays o root plan (IndexStopped many) = WalkSays o root plan.stop_after (Stopped many)
IndexSays o root plan (IndexReadFault path) = WalkSays o root plan.stop_after (ReadFault path)
IndexSays o root plan (IndexTooMany many) = WalkSays o root plan.stop_after (TooMany many)
IndexSays o root plan IndexMemory = Unit {0}

-- only directories were listed, no more often than the thread released mutex 0
pub record OnlyLists (before now : Calls) (thread : Worker) : Type 0 where
  pub dirs : List Path
  pub listed : now.listed ≡ before.listed ++ dirs
  pub read : now.files_read ≡ before.files_read
  pub failed : now.failed ≡ before.failed
  pub times : length dirs ≤ release_count 0 thread.mine

-- only files were read, no more often than the thread released mutex 1
pub record OnlyReads (before now : Calls) (thread : Worker) : Type 0 where
  pub files : List Path
  pub listed : now.listed ≡ before.listed
  pub read : now.files_read ≡ before.files_read ++ files
  pub failed : now.failed ≡ before.failed
  pub times : length files ≤ release_count 1 thread.mine

-- a walker's tree was only listed, and a parser's only read
abbrev pub OnlyCalls : Kind → Calls → Calls → Worker → Type 0
OnlyCalls Dir before now thread = OnlyLists before now thread
OnlyCalls File before now thread = OnlyReads before now thread

-- calls have failed at the path since
pub record FailsSince (before now : Calls) (path : Path) : Type 0 where
  pub more : List Path
  pub failed : now.failed ≡ before.failed ++ more
  pub among : Contains more path

module _ {S : Type 0} (tree : S → Option Contents) (weak : S → List Path) (faults : S → ℕ) (calls : S → Calls) where
  -- the tree came back as it was, and its count didn't fall
  pub record IsBack (s r : S) : Type 0 where
    pub same_tree : tree r ≡ tree s
    pub same_weak : weak r ≡ weak s
    pub count : faults s ≤ faults r

  -- the workers' trees are the first n, and the next is the closing walk's: these came back, and no
  -- other was touched
  pub record AreBack (n : ℕ) (old new : List (Option S)) : Type 0 where
    pub workers : (k : ℕ) (s : S) → k < n → slice_index_or old k None ≡ Some s → (r : S) × (slice_index_or new k None ≡ Some r) × IsBack s r
    pub closing : (s : S) → slice_index_or old n None ≡ Some s → (r : S) × (slice_index_or new n None ≡ Some r) × IsBack s r
    pub others : (i : ℕ) (d : Option S) → n < i → slice_index_or new i d ≡ slice_index_or old i d

  -- if memory ran out: each tree that is left is in its own place, and came back as it was; the
  -- closing walk's is back, and no tree after it was touched
  pub record AreLeft (n : ℕ) (old new : List (Option S)) : Type 0 where
    pub own : (k : ℕ) (r : S) → slice_index_or new k None ≡ Some r → (s : S) × (slice_index_or old k None ≡ Some s) × IsBack s r
    pub closing : (s : S) → slice_index_or old n None ≡ Some s → (r : S) × (slice_index_or new n None ≡ Some r) × IsBack s r
    pub others : (i : ℕ) (d : Option S) → n < i → slice_index_or new i d ≡ slice_index_or old i d

  -- the tree of the worker k, which is thread k + 1: its count didn't rise, and only calls of this
  -- kind were made on it
  pub record IsUsedBy (kind : Kind) (threads : List Worker) (k : ℕ) (s r : S) : Type 0 where
    pub none_rose : faults r ≡ faults s
    pub thread : Worker
    pub is_thread : get_elem? threads (suc k) ≡ some thread
    pub calls_only : IfSome (tree s) (λ t. OnlyCalls kind (calls s) (calls r) thread)

  -- no count rose; the trees of the walkers, which come first, were only listed, and those of the
  -- parsers only read
  pub record AreUsed (walkers n : ℕ) (threads : List Worker) (old new : List (Option S)) : Type 0 where
    pub workers : (k : ℕ) (s r : S) → k < n → slice_index_or old k None ≡ Some s → slice_index_or new k None ≡ Some r
        → IsUsedBy (kind_at walkers k) threads k s r
    pub closing : (s r : S) → slice_index_or old n None ≡ Some s → slice_index_or new n None ≡ Some r → faults r ≡ faults s

  -- a tree's count rose, and if its contents are known, a call on it has failed at this path since:
  -- the path is under the root, and may fail or isn't there as its entry says
  pub record IsCausedAt (root : Path) (old new : List (Option S)) (path : Path) : Type 0 where
    pub place : ℕ
    pub s : S
    pub was : slice_index_or old place None ≡ Some s
    pub r : S
    pub is : slice_index_or new place None ≡ Some r
    pub rose : Rose (faults s) (faults r)
    pub reported : IfSome (tree s) (λ t. IsFaultUnder t root (weak s) path × FailsSince (calls s) (calls r) path)

  abbrev pub HasCause : Path → List (Option S) → List (Option S) → IndexAnswer → Type 0
  HasCause root old new (IndexDone piece closed) = Unit {0}
  HasCause root old new (IndexStopped many) = Unit {0}
  HasCause root old new (IndexReadFault path) = IsCausedAt root old new path
  HasCause root old new (IndexTooMany many) = Unit {0}
  HasCause root old new IndexMemory = Unit {0}

  -- the trees after a run of `walkers` walkers and n workers with a tree, by its answer
  abbrev pub TreesAfter : ℕ → ℕ → List (Option S) → List (Option S) → IndexAnswer → Type 0
  TreesAfter walkers n old new (IndexDone piece closed) = AreBack n old new × AreUsed walkers n closed.threads old new
  TreesAfter walkers n old new (IndexStopped many) = AreBack n old new
  TreesAfter walkers n old new (IndexReadFault path) = AreBack n old new
  TreesAfter walkers n old new (IndexTooMany many) = AreBack n old new
  TreesAfter walkers n old new IndexMemory = AreLeft n old new
