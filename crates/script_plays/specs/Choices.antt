-- The actions that a thread may make at its line.
use Rattle.std.specs.Prelude.{◌≡◌, ◌⊎◌, ℕ, Bool, true, false, List, [], ◌∷◌, Option, Some, None, nat_le}
use Rattle.larch_actions.specs.declared.event.Version.{Version}
use Rattle.larch_actions.specs.declared.event.Version.TheVariants.{One, Two}
use Rattle.larch_actions.specs.declared.event.Action.{Action}
use Rattle.larch_actions.specs.declared.event.Action.TheVariants as action
use Rattle.larch_actions.specs.declared.thread_set.ThreadSet.{ThreadSet}
use Rattle.script_text.specs.declared.line.Line.{Line}
use Rattle.script_text.specs.declared.line.Operation.{Operation}
use Rattle.script_text.specs.declared.line.Operation.TheVariants.{Acquire, Release, Wait, AlertWait, Signal, Broadcast, P, V, Alert, TestAlert, AlertP, Add, Until, AlertUntil, Fork, Join}
use Rattle.script_plays.specs.declared.choice.Turn.TheVariants.{Stays, Next}
use Rattle.script_plays.specs.declared.choice.Choice.{Choice}

abbrev pub next : Action → Choice
next a = record { action = a; turn = Next }

abbrev pub stays : Action → Choice
stays a = record { action = a; turn = Stays }

-- the choices of each call, but for Signal; an add is no action
abbrev pub choices : Operation → List Choice
choices (Acquire m) = next (action.Acquire m) ∷ []
choices (Release m) = next (action.Release m) ∷ []
choices (Wait m c) = stays (action.Enqueue m c) ∷ next (action.Resume m c) ∷ []
choices (AlertWait m c) = stays (action.AlertEnqueue m c) ∷ next (action.AlertReturn m c) ∷ next (action.AlertRaise m c) ∷ []
choices (Signal c) = []
choices (Broadcast c) = next (action.Broadcast c) ∷ []
choices (P s) = next (action.P s) ∷ []
choices (V s) = next (action.V s) ∷ []
choices (Alert u) = next (action.Alert u) ∷ []
choices TestAlert = next (action.TestAlert true) ∷ next (action.TestAlert false) ∷ []
choices (AlertP s) = next (action.AlertPReturn s) ∷ next (action.AlertPRaise s) ∷ []
choices (Add m n) = []
choices (Until m c n) = stays (action.Enqueue m c) ∷ stays (action.Resume m c) ∷ []
choices (AlertUntil m c n) = stays (action.AlertEnqueue m c) ∷ stays (action.AlertReturn m c) ∷ next (action.AlertRaise m c) ∷ []
choices (Fork u) = next (action.Fork u) ∷ []
choices (Join u) = next (action.Join u) ∷ []

abbrev pub IsOneOf : List Choice → Choice → Type 0
IsOneOf [] x = ⊥
IsOneOf (y ∷ ys) x = (x ≡ y) ⊎ IsOneOf ys x

-- a call may make this choice; a Signal any set that it may leave
abbrev pub MayMake : Operation → Choice → Type 0
MayMake (Signal c) x = (left : ThreadSet) × (x ≡ next (action.Signal c left))
MayMake o x = IsOneOf (choices o) x

-- so may a thread that has these lines before it: in version two its End comes after the last
abbrev pub Gives : Version → List Line → Choice → Type 0
Gives One [] x = ⊥
Gives Two [] x = x ≡ stays action.End
Gives v (line ∷ rest) x = MayMake line.operation x

-- with these numbers a line is played with no event: an add, and an until whose number is reached
abbrev pub is_silent : Operation → (ℕ → ℕ) → Bool
is_silent (Add m n) number = true
is_silent (Until m c n) number = nat_le n (number m.0)
is_silent (AlertUntil m c n) number = nat_le n (number m.0)
is_silent _ number = false

-- three places for at most so many choices
abbrev pub three : List Choice → List (Option Choice)
three [] = None ∷ None ∷ None ∷ []
three (x ∷ []) = Some x ∷ None ∷ None ∷ []
three (x ∷ y ∷ []) = Some x ∷ Some y ∷ None ∷ []
three (x ∷ y ∷ z ∷ rest) = Some x ∷ Some y ∷ Some z ∷ []
