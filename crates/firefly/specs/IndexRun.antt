-- What an index run does to the trees, and why it may give no index.
use Rattle.std.specs.Prelude.{◌≡◌, ℕ, suc, ◌+◌, ◌-◌, ◌<◌, ◌≤◌, Bool, List, ◌++◌, length, nat_lt, if◌then◌else◌, slice_index_or, Option, Some, None, IfSome}
use Rattle.firefly_outside.specs.Causes.{Rose}
use Rattle.firefly_outside.specs.Trees.{Path, Calls}
use Rattle.firefly_outside.specs.Under.{AreMany}
use Rattle.firefly_outside.specs.declared.tree.Kind.{Kind}
use Rattle.firefly_outside.specs.declared.tree.Kind.TheVariants.{File, Dir}
use Rattle.larch_actions.specs.declared.event.Event.{Event}
use Rattle.larch_actions.specs.Actions.{by_thread}
use Rattle.word_index.specs.Index.{Index}
use Rattle.walker.specs.Closing.{IsWhole, IsFaultUnder, most_dirs}
use Rattle.indexer.specs.declared.plan.Plan.{Plan}
use Rattle.indexer.specs.Once.{IsEachOnce}
use Rattle.indexer.specs.Says.{FailsSince}
use Rattle.indexer.specs.Turns.{release_count}
use Rattle.command_line.specs.Grammar.{Options}
use Rattle.command_endings.specs.declared.status.Status.{Status}
use Rattle.command_endings.specs.declared.status.Status.TheVariants.{Done, Usage, ReadFault, SinkFault, Stopped, Memory, Illegal, BadText, TooMany, TooLong}
use Rattle.command_endings.specs.Changes.{Change, Notes}
use Rattle.firefly.specs.Looks.{Look, reported_by, Among}
use Rattle.command_endings.specs.Messages.{stopped_message, memory_message, too_many_message, unreadable_message}

-- the plan of these options
abbrev pub plan_of : Options → Bool → Plan
plan_of o traced = record { walkers = o.walkers; parsers = o.parsers; mergers = o.mergers; stop_after = o.stop_after; traced = traced }

-- no count of the trees rose
abbrev pub NoneRose : List (Option Look) → List (Option Look) → Type 0
NoneRose old new = (a b : Look) → Among old new a b → b.faults ≡ a.faults

-- the piece is the index of all files under the directory of the options, and neither limit is
-- passed, if the trees' contents are known
abbrev pub IsTheIndex : Options → List (Option Look) → Index → Type 0
IsTheIndex o old piece = IfSome (reported_by old) (λ t. IsWhole t o.directory o.stop_after piece)

-- where the tree shows its contents, over all of them together the directories under the one that is shown were listed, each once, and the files under it
-- were read, each once
abbrev pub AreAskedOnce : Options → List (Option Look) → List (Option Look) → Type 0
AreAskedOnce o old new = IfSome (reported_by old) (λ t. IsEachOnce (λ (l : Look). l.calls) t o.directory (length old - 1) old new)

-- each tree after those of the walkers, the parsers and the closing walk is as it was: nothing was asked of it
abbrev pub AreSpared : Options → List (Option Look) → List (Option Look) → Type 0
AreSpared o old new = (k : ℕ) → o.walkers + o.parsers < k → slice_index_or new k None ≡ slice_index_or old k None

-- only directories were listed, no more often than these events release mutex 0
pub record OnlyLists (before now : Calls) (own : List Event) : Type 0 where
  pub dirs : List Path
  pub listed : now.listed ≡ before.listed ++ dirs
  pub read : now.files_read ≡ before.files_read
  pub times : length dirs ≤ release_count 0 own

-- only files were read, no more often than these events release mutex 1
pub record OnlyReads (before now : Calls) (own : List Event) : Type 0 where
  pub files : List Path
  pub listed : now.listed ≡ before.listed
  pub read : now.files_read ≡ before.files_read ++ files
  pub times : length files ≤ release_count 1 own

abbrev pub CallsOf : Kind → Calls → Calls → List Event → Type 0
CallsOf Dir before now own = OnlyLists before now own
CallsOf File before now own = OnlyReads before now own

-- the walkers, which list directories, come first; then the parsers, which read files
abbrev pub kind_of_worker : Options → ℕ → Kind
kind_of_worker o k = if nat_lt k o.walkers then Dir else File

-- the tree at this place, before the call and after it
pub record IsAt (old new : List (Option Look)) (place : ℕ) (before now : Look) : Type 0 where
  pub before_there : slice_index_or old place None ≡ Some before
  pub now_there : slice_index_or new place None ≡ Some now

-- the work of the workers, as their trees show it, is in the history; the worker k is thread k + 1,
-- and works on the tree k
abbrev pub ShowsWork : Options → List (Option Look) → List (Option Look) → List Event → Type 0
ShowsWork o old new events =
    (k : ℕ) (a b : Look) → k < o.walkers + o.parsers → IsAt old new k a b
    → IfSome a.reported (λ t. CallsOf (kind_of_worker o k) a.calls b.calls (by_thread (suc k) events))

-- a call on one of the trees failed at this path: its count rose, and if its contents are known,
-- the path failed in this call, is reached from the directory, and may fail or isn't in the tree as
-- what its entry says
pub record FailedAt (o : Options) (old new : List (Option Look)) (path : Path) : Type 0 where
  pub before : Look
  pub now : Look
  pub among : Among old new before now
  pub rose : Rose before.faults now.faults
  pub reported : IfSome before.reported (λ t. IsFaultUnder t o.directory before.weak path × FailsSince before.calls now.calls path)

-- why there is no index: the cause of each status
abbrev pub NoIndex : Options → List (Option Look) → List (Option Look) → Change → Status → Type 0
NoIndex o old new notes Stopped =
    (n : ℕ) × (o.stop_after ≡ Some n) × IfSome (reported_by old) (λ t. AreMany t o.directory File (n + 1))
    × Notes notes (stopped_message (n + 1) n)
NoIndex o old new notes TooMany = IfSome (reported_by old) (λ t. AreMany t o.directory Dir (most_dirs + 1)) × Notes notes too_many_message
NoIndex o old new notes ReadFault = (path : Path) × FailedAt o old new path × Notes notes (unreadable_message path)
NoIndex o old new notes Memory = Notes notes memory_message
NoIndex o old new notes Done = ⊥
NoIndex o old new notes Usage = ⊥
NoIndex o old new notes SinkFault = ⊥
NoIndex o old new notes Illegal = ⊥
NoIndex o old new notes BadText = ⊥
NoIndex o old new notes TooLong = ⊥
