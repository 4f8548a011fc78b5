-- The events and visits of a thread from some place in its lines on.
use Rattle.std.proofs.Common.{◌≡◌, ◌⊎◌, ℕ, Bool, true, false, cond, eqb, List, [], ◌∷◌, ◌++◌}
use mathlib.Core.Option.{Option, none, some}
use Rattle.larch_actions.specs.declared.event.Event.{Event}
use Rattle.larch_actions.specs.declared.event.Version.{Version}
use Rattle.larch_actions.specs.declared.event.Version.TheVariants.{One, Two}
use Rattle.larch_actions.specs.declared.event.MutexId.{MutexId}
use Rattle.larch_actions.specs.declared.event.Action.{Action}
use Rattle.larch_actions.specs.declared.event.Action.TheVariants as action
use Rattle.larch_actions.specs.Actions.{put}
use Rattle.script_text.specs.declared.line.Line.{Line}
use Rattle.script_text.specs.declared.line.Operation.{Operation}
use Rattle.script_text.specs.declared.line.Operation.TheVariants.{Add}
use Rattle.script_text.specs.Visits.{Hand, Visit, adds, gets, leaves}
use Rattle.script_plays.specs.declared.choice.Turn.{Turn}
use Rattle.script_plays.specs.declared.choice.Turn.TheVariants.{Stays, Next}
use Rattle.script_plays.specs.Choices.{MayMake, Gives, is_silent}
use Rattle.script_plays.proofs.Owning.{lines_after}

-- what an action does with a mutex: the thread takes it, gives it back, or neither. All later lemmas go by these three cases.
pub data Deal : Type 0 where
  Taking : MutexId → Deal
  Giving : MutexId → Deal
  Apart : Deal

abbrev pub deal : Action → Deal
deal (action.Acquire m) = Taking m
deal (action.Resume m c) = Taking m
deal (action.AlertReturn m c) = Taking m
deal (action.AlertRaise m c) = Taking m
deal (action.Release m) = Giving m
deal (action.Enqueue m c) = Giving m
deal (action.AlertEnqueue m c) = Giving m
deal _ = Apart

abbrev pub taken : Deal → ℕ → Bool
taken (Taking k) m = eqb k.0 m
taken _ m = false

abbrev pub given : Deal → ℕ → Bool
given (Giving k) m = eqb k.0 m
given _ m = false

-- the holders after it, and what it asks of them
abbrev pub dealt : ℕ → Deal → (ℕ → Option ℕ) → ℕ → Option ℕ
dealt t (Taking k) f = put f k.0 (some t)
dealt t (Giving k) f = put f k.0 none
dealt t Apart f = f

abbrev pub MayDeal : ℕ → Deal → (ℕ → Option ℕ) → Type 0
MayDeal t (Taking k) f = f k.0 ≡ none
MayDeal t (Giving k) f = f k.0 ≡ some t
MayDeal t Apart f = Unit {0}

-- what the thread t leaves with it, and its hand after it
abbrev pub Deals : ℕ → Deal → Hand → List Visit → Hand → Type 0
Deals t (Taking k) hand vs after = (x : ℕ) × (vs ≡ []) × (after ≡ gets k x hand)
Deals t (Giving k) hand vs after = (vs ≡ leaves t k hand ∷ []) × (after ≡ hand)
Deals t Apart hand vs after = (vs ≡ []) × (after ≡ hand)

-- the silent lines that come first, by the numbers in the hand, are played
abbrev pub now : Hand → ℕ → ℕ
now h m = (h m).1

abbrev pub silently : Operation → Hand → Hand
silently (Add m n) h = adds m n h
silently _ h = h

abbrev pub quiet_lines : List Line → Hand → List Line
quiet_lines [] h = []
quiet_lines (x ∷ rest) h = cond (is_silent x.operation (now h)) (quiet_lines rest (silently x.operation h)) (x ∷ rest)

abbrev pub quiet_hand : List Line → Hand → Hand
quiet_hand [] h = h
quiet_hand (x ∷ rest) h = cond (is_silent x.operation (now h)) (quiet_hand rest (silently x.operation h)) h

abbrev pub IsLoud : List Line → Hand → Type 0
IsLoud [] h = Unit {0}
IsLoud (x ∷ rest) h = is_silent x.operation (now h) ≡ false

abbrev pub Rests : Version → List Line → Type 0
Rests One rest = rest ≡ []
Rests Two rest = Unit {0}

-- a thread with these lines before it and this hand, between lines or inside a wait, makes these events and visits
abbrev pub Runs : Version → ℕ → List Line → Hand → List Event → List Visit → Type 0
Runs v t rest hand [] vs = Rests v rest × (vs ≡ [])
Runs v t rest hand (e ∷ es) vs = (turn : Turn) × (a b : List Visit) × (after : Hand) × Gives v rest (record { action = e.action; turn = turn })
    × Deals t (deal e.action) hand a after × (vs ≡ a ++ b)
    × Runs v t (quiet_lines (lines_after turn rest) after) (quiet_hand (lines_after turn rest) after) es b

-- the general form of a row: each event is a choice of the operation, after the last of which the thread goes on or the line is silent
abbrev pub Opens : ℕ → Operation → List Event → Hand → List Visit → Hand → Type 0
Opens t o [] hand vs after = (is_silent o (now hand) ≡ true) × (vs ≡ []) × (after ≡ silently o hand)
Opens t o (e ∷ es) hand vs after = (is_silent o (now hand) ≡ false) × (turn : Turn) × (a b : List Visit) × (next : Hand)
    × MayMake o (record { action = e.action; turn = turn }) × Deals t (deal e.action) hand a next × (vs ≡ a ++ b)
    × (((turn ≡ Next) × (es ≡ []) × (b ≡ []) × (next ≡ after)) ⊎ ((turn ≡ Stays) × Opens t o es next b after))
