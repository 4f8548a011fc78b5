-- Chains: events that may be looked at alone, one after another, until none is possible.
use Rattle.std.specs.Prelude.{◌≡◌, ◌≤◌, ℕ, List, [], ◌∷◌, ◌++◌, Option, Some, None}
use Rattle.larch_actions.specs.declared.event.Event.{Event}
use Rattle.larch_actions.specs.declared.event.Layout.{Layout}
use Rattle.script_text.specs.declared.line.Line.{Line}
use Rattle.script_plays.specs.Scenes.{Scene}
use Rattle.script_plays.specs.Reduced.{GoesAlone}
use Rattle.script_search.specs.declared.board.Board.{Board}
use Rattle.script_search.specs.Boards.{Moment, moment_of, scene_of, IsBoard}

-- no event that may be looked at alone is possible in the scene
abbrev pub HasNoneAlone : Layout → List Line → Scene → Type 0
HasNoneAlone l xs s = (e : Event) (u : Scene) → GoesAlone l xs s e u → ⊥

-- the event leads on from the scene, and is that of the first thread whose next one may be looked at alone
abbrev pub GoesFirst : Layout → List Line → Scene → Event → Scene → Type 0
GoesFirst l xs s e u = GoesAlone l xs s e u × ((f : Event) (v : Scene) → GoesAlone l xs s f v → e.thread.0 ≤ f.thread.0)

-- the events lead from the first scene to the second, each that of the first such thread, and none is possible there
abbrev pub IsChain : Layout → List Line → Scene → List Event → Scene → Type 0
IsChain l xs s [] s' = (s ≡ s') × HasNoneAlone l xs s
IsChain l xs s (e ∷ es) s' = (u : Scene) × GoesFirst l xs s e u × IsChain l xs u es s'

-- such an event of the thread leads to the board, or the thread has none
abbrev pub IsAloneOf : Layout → List Line → Moment → ℕ → Option (Event × Board) → Type 0
IsAloneOf l xs m t None = (e : Event) (s : Scene) → e.thread.0 ≡ t → GoesAlone l xs (scene_of m) e s → ⊥
IsAloneOf l xs m t (Some (e, b)) = (e.thread.0 ≡ t) × GoesAlone l xs (scene_of m) e (scene_of (moment_of b)) × IsBoard l (moment_of b)

-- so does that of the first thread that has one, or no thread has one
abbrev pub IsNext : Layout → List Line → Moment → Option (Event × Board) → Type 0
IsNext l xs m None = HasNoneAlone l xs (scene_of m)
IsNext l xs m (Some (e, b)) = GoesFirst l xs (scene_of m) e (scene_of (moment_of b)) × IsBoard l (moment_of b)

-- the events are those before and then a chain from the one moment to the other
abbrev pub Chains : Layout → List Line → Moment → List Event → List Event → Moment → Type 0
Chains l xs m old new n = (h : List Event) × (new ≡ old ++ h) × IsChain l xs (scene_of m) h (scene_of n) × IsBoard l n
