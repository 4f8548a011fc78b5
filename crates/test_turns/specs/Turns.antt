-- The events of a turn.
use Rattle.std.specs.Prelude.{◌≡◌, ℕ, Bool, true, false, List, [], ◌∷◌, ◌++◌}
use Rattle.larch_actions.specs.declared.event.Event.{Event}
use Rattle.nub_rule.specs.Plays.{broadcast_action, event, signal_action}
use Rattle.test_turns.specs.declared.turns.Wake.{Wake}
use Rattle.test_turns.specs.declared.turns.Wake.TheVariants.{Nobody, One, All}

-- by these events the thread t wakes nobody, some thread of a condition, or all of its threads
abbrev pub Wakes : Wake → ℕ → List Event → Type 0
Wakes Nobody t es = es ≡ []
Wakes (One c) t es = (left : List ℕ) × (es ≡ event t (signal_action c.0 left) ∷ [])
Wakes (All c) t es = es ≡ event t (broadcast_action c.0 []) ∷ []

-- the release, with these events after it or before it
abbrev pub ends_turn : Bool → Event → List Event → List Event
ends_turn true e es = e ∷ es
ends_turn false e es = es ++ e ∷ []
