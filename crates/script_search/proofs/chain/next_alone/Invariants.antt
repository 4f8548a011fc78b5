use Rattle.std.proofs.Common.{◌<◌}
use Rattle.larch_actions.specs.declared.event.Event.{Event}
use Rattle.script_plays.specs.Scenes.{Scene}
use Rattle.script_plays.specs.Reduced.{GoesAlone}
use Rattle.script_search.specs.Boards.{moment_of, scene_of}
use Rattle.script_search.proofs.chain.next_alone.Given as goal

abbrev pub invariant-loop-thread : goal.invariant-loop-thread
invariant-loop-thread l = (e : Event) (s : Scene) → GoesAlone l.plan.layout l.plan.lines (scene_of (moment_of l.board)) e s → e.thread.0 < l.thread → ⊥
