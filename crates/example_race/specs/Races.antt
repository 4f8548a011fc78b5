-- The track, and what threads did on it.
use Rattle.std.specs.Prelude.{◌≡◌, ℕ, ◌+◌, ◌≤◌, ◌<◌, cond, eqb, false, List, [], ◌∷◌, ◌++◌}
use Rattle.firefly_threads.specs.Names.{Event, total, waits}
use Rattle.firefly_threads.specs.Plays.{acquire_event, broadcast_action, event, release_event, signal_action}
use Rattle.example_race.specs.declared.uses.Part.{Part}
use Rattle.example_race.specs.declared.uses.Track.{Track}

-- who begins the race, and who runs
abbrev pub starter : Part
starter = record { runs = 0; arrived = 0; seen = 0 }

abbrev pub runner : Part
runner = record { runs = 1; arrived = 0; seen = 0 }

-- thread 0 begins it
abbrev pub begins : ℕ → Part
begins t = cond (eqb t 0) starter runner

-- a runner who has arrived
abbrev pub arrived : Part
arrived = record { runs = 0; arrived = 1; seen = 0 }

-- a starter who has seen that all have
abbrev pub saw : Part
saw = record { runs = 0; arrived = 0; seen = 1 }

-- as many are left as have yet to arrive; before the start nobody has arrived; where one has seen that all have, none is left
pub record IsKept (q : Track) (shares : List Part) : Type 0 where
  pub left : q.left ≡ total (λ s. s.runs) shares
  pub start : q.begun ≡ false → total (λ s. s.arrived) shares ≡ 0
  pub end : 1 ≤ total (λ s. s.seen) shares → q.left ≡ 0

-- what a holder knows
abbrev pub IsKnown : Track → Part → Type 0
IsKnown q s = s.runs ≤ q.left

-- who arrives is taken off; a race that has begun stays so, and only then one arrives; where none is left it stays so, and only then one
-- sees that
pub record Moves (x y : Track) (s r : Part) : Type 0 where
  pub left : y.left + s.runs ≡ x.left + r.runs
  pub begun : y.begun ≡ false → x.begun ≡ false
  pub start : y.begun ≡ false → r.arrived ≤ s.arrived
  pub over : x.left ≡ 0 → y.left ≡ 0
  pub end : s.seen < r.seen → y.left ≡ 0

-- of the thread n: the starter has seen that all have arrived, and each other thread has arrived
pub record IsPart (n : ℕ) (s : Part) : Type 0 where
  pub starter : n ≡ 0 → s ≡ saw
  pub runner : 0 < n → s ≡ arrived

-- the thread n begins the race, and wakes all runners
abbrev pub starts : ℕ → List Event
starts n = acquire_event n 0 ∷ release_event n 0 ∷ event n (broadcast_action 0 []) ∷ []

-- it waits k times in the condition c, and then works on the track
abbrev pub works : ℕ → ℕ → ℕ → List Event
works n c k = (acquire_event n 0 ∷ waits n 0 c k) ++ release_event n 0 ∷ []

-- the events of the thread n: the starter begins the race, and waits until all have arrived. Each
-- other waits for the start, arrives, and signals, which leaves some waiting
pub record IsRun (n : ℕ) (es : List Event) : Type 0 where
  pub starter : n ≡ 0 → (k : ℕ) × (es ≡ starts n ++ works n 1 k)
  pub runner : 0 < n → (k : ℕ) × (left : List ℕ) × (es ≡ works n 0 k ++ event n (signal_action 1 left) ∷ [])
