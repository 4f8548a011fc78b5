-- The events of a thread, and its stints with the bar.
use Rattle.std.specs.Prelude.{Bool, true, false, ◌≡◌, ℕ, ◌+◌, ◌≤◌, cond, eqb, List, [], ◌∷◌, ◌++◌}
use Rattle.larch_actions.specs.declared.event.Event.{Event}
use Rattle.larch_actions.specs.declared.event.Action.{Action}
use Rattle.larch_actions.specs.declared.event.Action.TheVariants.{Acquire, Release}
use Rattle.larch_actions.specs.Takers.{gives}
use Rattle.nub_rule.specs.declared.view.Stint.{Stint}
use Rattle.barrier_once.specs.declared.cell.Cell.{Cell}
use Rattle.barrier_once.specs.declared.share.RoundShare.{RoundShare}

abbrev pub RoundStint : Type 0
RoundStint = Stint Cell RoundShare

-- the action acquires the mutex m, and the action releases it
abbrev pub acquires : ℕ → Action → Bool
acquires m (Acquire x) = eqb x.0 m
acquires m _ = false

abbrev pub releases : ℕ → Action → Bool
releases m (Release x) = eqb x.0 m
releases m _ = false

-- how many of the events have such an action
abbrev pub how_many : (Action → Bool) → List Event → ℕ
how_many f [] = 0
how_many f (e ∷ es) = cond (f e.action) 1 0 + how_many f es

-- The stints with the mutex m that one event of a thread ends: one, if the event gives m back. The
-- thread had arrived at most `came` times after it; and if it released m, it had left once more
-- than `left` times.
abbrev pub EndsStints : ℕ → Bool → Bool → ℕ → ℕ → List RoundStint → Type 0
EndsStints m false released came left ss = ss ≡ []
EndsStints m true released came left ss =
    (s : RoundStint) × (ss ≡ s ∷ []) × (s.mutex ≡ m) × (s.after.arrivals ≤ came) × (released ≡ true → s.after.left ≡ left + 1)

-- The stints of a thread with the mutex m, one for each of these events that gives m back: the
-- thread never had more arrivals than it had acquired m, and with each release it had left once
-- more. It had acquired m `came` times before, and released it `left` times.
abbrev pub Walks : ℕ → ℕ → ℕ → List Event → List RoundStint → Type 0
Walks m came left [] ss = ss ≡ []
Walks m came left (e ∷ es) ss =
    (own : List RoundStint) × (others : List RoundStint) × (ss ≡ own ++ others)
    × EndsStints m (gives m e.action) (releases m e.action) came left own
    × Walks m (came + cond (acquires m e.action) 1 0) (left + cond (releases m e.action) 1 0) es others
