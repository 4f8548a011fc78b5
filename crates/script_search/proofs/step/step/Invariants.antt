use Rattle.std.proofs.Common.{◌<◌}
use Rattle.larch_actions.specs.declared.event.Event.{Event}
use Rattle.script_search.specs.Boards.{moment_of}
use Rattle.script_search.specs.Ways.{Leads}
use Rattle.script_search.proofs.step.step.Given as goal

abbrev pub invariant-loop-t : goal.invariant-loop-t
invariant-loop-t l = (e : Event) → e.thread.0 < l.t → Leads l.plan.layout l.plan.lines (moment_of l.from) (moment_of l.to) e → ⊥
