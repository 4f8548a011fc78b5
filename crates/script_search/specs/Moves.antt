-- How a scene goes on.
use Rattle.std.specs.Prelude.{Option, Some, None, List}
use Rattle.larch_actions.specs.declared.event.Event.{Event}
use Rattle.larch_actions.specs.declared.event.Layout.{Layout}
use Rattle.script_text.specs.declared.line.Line.{Line}
use Rattle.script_plays.specs.Scenes.{Scene}
use Rattle.script_plays.specs.Plays.{Goes}
use Rattle.script_search.specs.declared.board.Board.{Board}
use Rattle.script_search.specs.Boards.{Moment, moment_of, scene_of, IsBoard}

-- the event leads from the moment to the board, or may not come there
abbrev pub Moves : Layout → List Line → Moment → Event → Option Board → Type 0
Moves l xs m e None = (s : Scene) → Goes l xs (scene_of m) e s → ⊥
Moves l xs m e (Some b) = Goes l xs (scene_of m) e (scene_of (moment_of b)) × IsBoard l (moment_of b)
