-- What a package begins with, and what contracts see of it once it is closed.
use Rattle.std.specs.Prelude.{◌≡◌, ◌⊎◌, ℕ, ◌<◌, ◌≤◌, List, [], map, length, Option as Opt, Some, None}
use Rattle.std.proofs.Common.{Vec, Global}
use Rattle.std.specs.List.{All}
use mathlib.Core.Option.{some}
use lib.ListN.{get_elem?}
use Rattle.larch_actions.specs.declared.event.Layout.{Layout}
use Rattle.larch_actions.specs.declared.event.Event.{Event}
use Rattle.larch_actions.specs.Layout.{HasNames}
use Rattle.larch_actions.specs.Actions.{IsClosed, StartsWith, by_thread}
use Rattle.nub_rule.specs.Known.{Known, Shape}
use Rattle.nub_rule.specs.Items.{Each}
use Rattle.nub_rule.specs.declared.view.Stint.{Stint}
use Rattle.larch_actions.specs.Takers.{givers, takers}
use Rattle.nub_rule.specs.Stints.{AreInTurn, StintsLead, stinters, stints_at, stints_by}
use Rattle.nub.specs.Rest.{AtRest}

-- the layout, the last released value of each mutex, the whole history of a traced run, and each
-- thread as it came back
pub record Ended (T H W : Type 0) : Type 0 where
  pub layout : Layout
  pub values : List T
  pub trace : Opt (List Event)
  pub threads : List (Known T H W)

abbrev pub trace_of : Opt (Vec Event Global) → Opt (List Event)
trace_of None = None
trace_of (Some v) = Some v.items

abbrev pub ended : {T H W : Type 0} → Layout → Vec T Global → Opt (Vec Event Global) → List (Known T H W) → Ended T H W
ended l values trace threads = record { layout = l; values = values.items; trace = trace_of trace; threads = threads }

module _ {T H W : Type 0} where
  -- the thread n of the package, which has done nothing and has its first share
  pub record IsFirst (p : Shape W) (begin : W → ℕ → H) (n : ℕ) (t : Known T H W) : Type 0 where
    pub number : t.number ≡ n
    pub rest : AtRest p t
    pub world : t.world ≡ Some p.world
    pub seen : t.seen ≡ []
    pub mine : t.mine ≡ []
    pub few : p.layout.mutexes ≤ 64
    pub lacks : (m : ℕ) → m < 64 → get_elem? t.held m ≡ some None
    pub size : length t.held ≡ 64
    pub none : (m : ℕ) (x : T) → ¬ (get_elem? t.held m ≡ some (Some x))
    pub share : t.share ≡ Some (begin p.world n)
    pub stints : t.stints ≡ []

  -- the thread n of the package, at rest and without a mutex
  pub record IsDone (p : Shape W) (n : ℕ) (t : Known T H W) : Type 0 where
    pub number : t.number ≡ n
    pub rest : AtRest p t
    pub lacks : (m : ℕ) (x : T) → ¬ (get_elem? t.held m ≡ some (Some x))

  -- the lock invariant holds of the values and of the threads' shares
  pub record KeepsLocks (holds : List T → List H → Type 0) (threads : List (Known T H W)) (values : List T) : Type 0 where
    pub shares : List H
    pub each_share : map (λ t. t.share) threads ≡ map (λ s. Some s) shares
    pub kept : holds values shares

  -- values along the history: the stints of all threads in one order, which lead from first values
  -- and shares to the last, so that each got what the last stint with its mutex left, or the first
  -- value. The threads that give a mutex back in the history, and those that take it, are those of
  -- its stints, in this order
  pub record KeepsStints (holds : List T → List H → Type 0) (threads : List (Known T H W)) (values : List T) (h : List Event) : Type 0 where
    pub first : List T
    pub first_shares : List H
    pub shares : List H
    pub stints : List (Stint T H)
    pub each_share : map (λ t. t.share) threads ≡ map (λ s. Some s) shares
    pub lead : StintsLead holds first first_shares stints values shares
    pub in_turn : (m : ℕ) (x y : T) → get_elem? first m ≡ some x → get_elem? values m ≡ some y → AreInTurn x (stints_at m stints) y
    pub own : Each (λ n t. stints_by n stints ≡ t.stints) threads
    pub gives : (m : ℕ) → givers m h ≡ stinters m stints
    pub takes : (m : ℕ) → takers m h ≡ stinters m stints

  -- the list is the whole history of the threads: it is legal and closed, each event is by one of
  -- them and has names of the layout, each thread has seen a beginning of it, one has seen all of
  -- it unless it is empty, and each thread's part of it is that thread's own events
  pub record IsWhole (l : Layout) (threads : List (Known T H W)) (h : List Event) : Type 0 where
    pub closed : IsClosed l.version h
    pub people : All (λ e. e.thread.0 < length threads) h
    pub names : All (HasNames l) h
    pub longest : (h ≡ []) ⊎ ((n : ℕ) × (t : Known T H W) × (get_elem? threads n ≡ some t) × (t.seen ≡ h))
    pub seen : Each (λ n t. StartsWith h t.seen) threads
    pub own : Each (λ n t. by_thread n h ≡ t.mine) threads
