-- The events of a thread in its rounds: the bar is the mutex 0 with the condition 0, the sum the
-- mutex 1, and the once cell the mutex 2.
use Rattle.std.specs.Prelude.{◌≡◌, ℕ, zero, suc, ◌+◌, ◌<◌, ◌≤◌, cond, eqb, List, [], ◌∷◌, ◌++◌}
use Rattle.larch_actions.specs.Actions.{by_thread}
use Rattle.larch_actions.specs.declared.event.Event.{Event}
use Rattle.nub_rule.specs.Plays.{acquire_event, release_event}
use Rattle.larch_actions.specs.Takers.{takers}
use Rattle.barrier_once.specs.Calls.{IsStay}
use Rattle.barrier_once.specs.Walks.{acquires, how_many, releases}

-- the thread t acquires the mutex m and releases it
abbrev pub visit : ℕ → ℕ → List Event
visit t m = acquire_event t m ∷ release_event t m ∷ []

-- the thread t arrives: the last to arrive wakes all others, any other waits, at least once
abbrev pub IsArrivalOf : ℕ → List Event → Type 0
IsArrivalOf t es = (stay : List Event) × IsStay t 0 0 stay × (es ≡ (acquire_event t 0 ∷ stay) ++ release_event t 0 ∷ [])

-- what the thread t does between its two arrivals: thread 0 takes the total
abbrev pub asked : ℕ → List Event
asked t = cond (eqb t 0) (visit t 1) []

-- one round of the thread t: it adds, arrives, asks, and arrives again
abbrev pub IsRoundOf : ℕ → List Event → Type 0
IsRoundOf t es =
    (first : List Event) × (second : List Event) × IsArrivalOf t first × IsArrivalOf t second
    × (es ≡ ((visit t 1 ++ first) ++ asked t) ++ second)

-- n rounds of the thread t
abbrev pub AreRoundsOf : ℕ → ℕ → List Event → Type 0
AreRoundsOf t zero es = es ≡ []
AreRoundsOf t (suc n) es = (before : List Event) × (last : List Event) × AreRoundsOf t n before × IsRoundOf t last × (es ≡ before ++ last)

-- all events of the thread t: it agrees, and plays `rounds` rounds
abbrev pub AreEventsOf : ℕ → ℕ → List Event → Type 0
AreEventsOf t rounds es = (rest : List Event) × AreRoundsOf t rounds rest × (es ≡ visit t 2 ++ rest)

-- no thread leaves the bar before all have come as often: before each Release of the bar that is its
-- thread's k-th, each thread has acquired the bar at least k times
abbrev pub AllHaveCome : ℕ → List Event → Type 0
AllHaveCome threads h = (a b : List Event) (t u : ℕ) → h ≡ a ++ release_event t 0 ∷ b → u < threads
    → how_many (releases 0) (by_thread t a) + 1 ≤ how_many (acquires 0) (by_thread u a)

-- the value is the number and 1 of the thread that takes the once cell first
abbrev pub IsOfFirst : ℕ → List Event → Type 0
IsOfFirst value h = (t : ℕ) (others : List ℕ) → takers 2 h ≡ t ∷ others → value ≡ t + 1
