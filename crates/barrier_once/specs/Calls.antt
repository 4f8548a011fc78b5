-- The events of a call, and a thread that holds the mutex of the bar.
use Rattle.std.specs.Prelude.{◌≡◌, ◌⊎◌, ℕ, ◌+◌, ◌<◌, ◌≤◌, false, zero, suc, List, [], ◌∷◌, ◌++◌, slice_set, Some, None}
use Rattle.larch_actions.specs.declared.event.Event.{Event}
use Rattle.nub_rule.specs.Known.{Known, Shape, Holds}
use Rattle.nub_rule.specs.Plays.{acquire_event, release_event, enqueue_event, event, broadcast_action}
use Rattle.nub.specs.Rest.{AtRest, Added, Adds, IsSame}
use Rattle.condition.specs.Waits.{resume_event}
use Rattle.barrier_once.specs.declared.cell.Cell.{Cell}
use Rattle.barrier_once.specs.declared.cell.RoundAt.{RoundAt}
use Rattle.barrier_once.specs.declared.share.RoundShare.{RoundShare}
use Rattle.barrier_once.specs.declared.share.RoundWorld.{RoundWorld}
use Rattle.barrier_once.specs.Rounds.{KnowsBar, MayArrive, arrived_share, passed_share}
use Rattle.barrier_once.specs.Walks.{RoundStint, Walks}

abbrev pub RoundThread : Type 0
RoundThread = Known Cell RoundShare RoundWorld

-- the cells are those of the world, with names in the layout, and all threads are parties
pub record IsPlaced (p : Shape RoundWorld) (at : RoundAt) : Type 0 where
  pub world : at ≡ p.world.at
  pub parties : p.layout.threads ≡ p.world.parties
  pub bar : at.bar.0 < p.layout.mutexes
  pub cond : at.cond.0 < p.layout.conditions
  pub sum : at.sum.0 < p.layout.mutexes
  pub once : at.once.0 < p.layout.mutexes

-- k waits of the thread t on the mutex m in the condition c
abbrev pub waits : ℕ → ℕ → ℕ → ℕ → List Event
waits t m c zero = []
waits t m c (suc k) = enqueue_event false t m c ∷ resume_event t m c ∷ waits t m c k

-- what the thread t does at the bar between its acquire and its release: the last to arrive wakes
-- all others, any other waits, at least once
abbrev pub IsStay : ℕ → ℕ → ℕ → List Event → Type 0
IsStay t m c es = (es ≡ event t (broadcast_action c []) ∷ []) ⊎ ((k : ℕ) × (es ≡ waits t m c (suc k)))

-- the stints ss were entered, those of these events at the bar m
abbrev pub EntersAll : ℕ → ℕ → ℕ → List Event → RoundThread → RoundThread → Type 0
EntersAll m came left es a b = (ss : List RoundStint) × (b.stints ≡ a.stints ++ ss) × Walks m came left es ss

-- the thread t with the share s acquired m, stayed at the bar, and released m; these are its stints
abbrev pub Arrived : ℕ → ℕ → ℕ → RoundShare → RoundThread → RoundThread → Type 0
Arrived t m c s a b =
    (es : List Event) × IsStay t m c es × Adds (acquire_event t m ∷ es) (release_event t m) a b
    × EntersAll m s.arrivals s.left (acquire_event t m ∷ (es ++ release_event t m ∷ [])) a b

-- the thread t acquired m and released it
abbrev pub Visited : ℕ → ℕ → RoundThread → RoundThread → Type 0
Visited t m a b = Adds (acquire_event t m ∷ []) (release_event t m) a b

-- the thread t entered one stint with m, in which it got x and left y, and its share was s and is r
abbrev pub Enters : ℕ → ℕ → Cell → Cell → RoundShare → RoundShare → RoundThread → RoundThread → Type 0
Enters t m x y s r a b = b.stints ≡ a.stints ++ record { thread = t; mutex = m; got = x; left = y; before = s; after = r } ∷ []

-- the thread holds the bar x, at which it may arrive
pub record IsAtBar (p : Shape RoundWorld) (at : RoundAt) (x : Cell) (s : RoundShare) (b : RoundThread) : Type 0 where
  pub placed : IsPlaced p at
  pub rest : AtRest p b
  pub world : b.world ≡ Some p.world
  pub share : b.share ≡ Some s
  pub holds : Holds b at.bar.0 x
  pub may : MayArrive b.number s
  pub knows : KnowsBar p.world x s

-- the thread, which held the bar in a with the share s, has left it in b
pub record HasLeft (p : Shape RoundWorld) (at : RoundAt) (s : RoundShare) (a b : RoundThread) : Type 0 where
  pub rest : AtRest p b
  pub same : IsSame a b
  pub ran : (es : List Event) × IsStay a.number at.bar.0 at.cond.0 es × Adds es (release_event a.number at.bar.0) a b
      × EntersAll at.bar.0 (s.arrivals + 1) s.left (es ++ release_event a.number at.bar.0 ∷ []) a b
  pub held : b.held ≡ slice_set a.held at.bar.0 None
  pub share : b.share ≡ Some (passed_share s)

-- since a the thread has arrived and waited, k times and once more; it holds the bar x
pub record IsWaiting (p : Shape RoundWorld) (at : RoundAt) (s : RoundShare) (k : ℕ) (x : Cell) (a b : RoundThread) : Type 0 where
  pub rest : AtRest p b
  pub same : IsSame a b
  pub events : Added (waits a.number at.bar.0 at.cond.0 (suc k)) a b
  pub stints : EntersAll at.bar.0 (s.arrivals + 1) s.left (waits a.number at.bar.0 at.cond.0 (suc k)) a b
  pub held : b.held ≡ slice_set a.held at.bar.0 (Some x)
  pub holds : Holds b at.bar.0 x
  pub share : b.share ≡ Some (arrived_share s)
  pub knows : KnowsBar p.world x (arrived_share s)

-- The thread has agreed on the value. It has offered nothing, since the value was in the cell; or the cell was empty, and it has offered the
-- value, which its function answers.
abbrev pub HasAgreed : (ℕ → Type 0) → ℕ → RoundShare → RoundShare → Type 0
HasAgreed answers value s r =
    (r ≡ record s { agreed = Some value })
    ⊎ ((s.offered ≡ None) × answers value × (r ≡ record s { agreed = Some value; offered = Some value }))

-- the value is the one that the thread has agreed on before, if there is one, and 1 to the greatest value
pub record IsFitting (w : RoundWorld) (s : RoundShare) (value : ℕ) : Type 0 where
  pub again : (v : ℕ) → s.agreed ≡ Some v → value ≡ v
  pub within : (1 ≤ value) × (value ≤ w.most)
