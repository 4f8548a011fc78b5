-- Which event, and the chain after it, lead from one moment to another.
use Rattle.std.proofs.Common.{Vec, Global}
use Rattle.std.specs.Prelude.{◌≡◌, ℕ, List, [], ◌∷◌, length, Option, Some, None, slice_get}
use Rattle.larch_actions.specs.declared.event.Action.TheVariants as action
use Rattle.larch_actions.specs.declared.event.Event.{Event}
use Rattle.larch_actions.specs.declared.event.Layout.{Layout}
use Rattle.larch_actions.specs.declared.event.Version.{Version}
use Rattle.larch_actions.specs.declared.event.Version.TheVariants.{One, Two}
use Rattle.script_text.specs.declared.line.Line.{Line}
use Rattle.script_text.specs.Runs.{event}
use Rattle.script_plays.specs.declared.choice.Choice.{Choice}
use Rattle.script_plays.specs.Choices.{stays}
use Rattle.script_plays.specs.Scenes.{Scene}
use Rattle.script_plays.specs.Plays.{Goes, Plays}
use Rattle.script_search.specs.Boards.{Moment, scene_of}
use Rattle.script_search.specs.Chains.{IsChain}
use Rattle.script_search.specs.Tries.{MayTryAll}

abbrev pub Leads : Layout → List Line → Moment → Moment → Event → Type 0
Leads l xs m n e = (u : Scene) × (h : List Event) × Goes l xs (scene_of m) e u × IsChain l xs u h (scene_of n)

-- the events lead from the one to the other
abbrev pub LeadsBy : Layout → List Line → Moment → Moment → List Event → Type 0
LeadsBy l xs m n h = Plays l xs (scene_of m) h (scene_of n)

-- these events lead from the one to the other, or none of these first events does with its chain
abbrev pub IsStep : Layout → List Line → Moment → Moment → (Event → Type 0) → Option (Vec Event Global) → Type 0
IsStep l xs m n here None = (e : Event) → here e → Leads l xs m n e → ⊥
IsStep l xs m n here (Some v) = LeadsBy l xs m n v.items

-- the choice leads from the one to the other
abbrev pub IsWay : Layout → List Line → Moment → Moment → ℕ → List (Option Choice) → ℕ → Choice → Type 0
IsWay l xs m n t cs k c = (slice_get cs k ≡ Some (Some c)) × Leads l xs m n (event t c.action)

-- three choices of the thread at most, one of which leads from the one to the other if any event of the thread does
pub record AreWays (l : Layout) (xs : List Line) (m n : Moment) (t : ℕ) (cs : List (Option Choice)) : Type 0 where
  pub size : length cs ≡ 3
  pub may : MayTryAll l xs m t cs
  pub all : (e : Event) → e.thread.0 ≡ t → Leads l xs m n e → (k : ℕ) × (c : Choice) × IsWay l xs m n t cs k c

-- the choices of a thread after its last line
abbrev pub last_choices : Version → List Choice
last_choices One = []
last_choices Two = stays action.End ∷ []
