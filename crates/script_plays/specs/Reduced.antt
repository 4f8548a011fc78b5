-- Reduced plays: where a thread has an event that may be looked at alone, no other event is looked at.
use Rattle.std.specs.Prelude.{◌≡◌, ◌⊎◌, ℕ, Bool, true, false, List, [], ◌∷◌, Option, Some, IfSome}
use Rattle.larch_actions.specs.declared.event.Event.{Event}
use Rattle.larch_actions.specs.declared.event.Layout.{Layout}
use Rattle.larch_actions.specs.declared.event.Action.{Action}
use Rattle.larch_actions.specs.declared.event.Action.TheVariants.{Release, Fork, End, Join}
use Rattle.script_text.specs.declared.line.Line.{Line}
use Rattle.script_text.specs.Text.{IsScript}
use Rattle.script_plays.specs.Scenes.{Scene, first_scene}
use Rattle.script_plays.specs.Plays.{Goes, IsWhole, CanGoOn, IsStuck, Ends}

-- an action that no other thread can hinder, and before which or after which each event of another thread does the same
abbrev pub is_alone : Action → Bool
is_alone (Release m) = true
is_alone (Fork who) = true
is_alone End = true
is_alone (Join who) = true
is_alone _ = false

-- such an event leads on from the scene
abbrev pub GoesAlone : Layout → List Line → Scene → Event → Scene → Type 0
GoesAlone l xs s e s' = (is_alone e.action ≡ true) × Goes l xs s e s'

-- the next event of the thread t is possible in the scene, and may be looked at alone
abbrev pub MayGoAlone : Layout → List Line → Scene → ℕ → Type 0
MayGoAlone l xs s t = (e : Event) × (s' : Scene) × (e.thread.0 ≡ t) × GoesAlone l xs s e s'

-- all scenes that may come next are seen, or one to which such an event leads
abbrev pub IsLookedAround : Layout → List Line → (Scene → Type 0) → Scene → Type 0
IsLookedAround l xs Seen s =
    ((e : Event) (s' : Scene) → Goes l xs s e s' → Seen s') ⊎ ((e : Event) × (s' : Scene) × GoesAlone l xs s e s' × Seen s')

-- in some scenes a thread is picked, always one whose next event may be looked at alone
abbrev pub PicksAlone : Layout → List Line → (Scene → Option ℕ) → Type 0
PicksAlone l xs pick = (s : Scene) (t : ℕ) → pick s ≡ Some t → MayGoAlone l xs s t

-- the event is by the thread that is picked, or none is picked
abbrev pub IsLookedAt : Option ℕ → Event → Type 0
IsLookedAt picked e = IfSome picked (λ t. e.thread.0 ≡ t)

-- the events lead from the first scene to the second, each one that is looked at
abbrev pub ReducedPlays : Layout → List Line → (Scene → Option ℕ) → Scene → List Event → Scene → Type 0
ReducedPlays l xs pick s [] s' = s ≡ s'
ReducedPlays l xs pick s (e ∷ es) s' = (u : Scene) × Goes l xs s e u × IsLookedAt (pick s) e × ReducedPlays l xs pick u es s'

abbrev pub IsReducedPlay : Layout → List Line → (Scene → Option ℕ) → List Event → Type 0
IsReducedPlay l xs pick h = (s : Scene) × ReducedPlays l xs pick (first_scene l.version) h s

-- whatever is picked, if a play gets stuck, then so does a reduced one
abbrev pub StuckPlaysAreReduced : Type 0
StuckPlaysAreReduced =
    (l : Layout) (xs : List Line) (pick : Scene → Option ℕ) (h : List Event) → IsScript l xs → PicksAlone l xs pick → IsStuck l xs h
    → (g : List Event) × IsReducedPlay l xs pick g × IsStuck l xs g

-- so if each reduced play is whole or can go on, then each play is whole or can go on
abbrev pub ReducedPlaysDecide : Type 0
ReducedPlaysDecide =
    (l : Layout) (xs : List Line) (pick : Scene → Option ℕ) → IsScript l xs → PicksAlone l xs pick
    → ((h : List Event) → IsReducedPlay l xs pick h → IsWhole l xs h ⊎ CanGoOn l xs h) → Ends l xs
