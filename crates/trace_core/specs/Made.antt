-- Sets of threads that are kept as reading their names makes them.
use Rattle.std.specs.Prelude.{◌≡◌}
use Rattle.larch_actions.specs.declared.event.Action.{Action}
use Rattle.larch_actions.specs.declared.rows.Ending.{Ending}
use Rattle.larch_actions.specs.declared.rows.Ending.TheVariants.{Left}
use Rattle.larch_actions.specs.Rows.{row_of}
use Rattle.trace_core.specs.Names.{set_from}
use Rattle.trace_core.specs.Text.{members}

-- the threads that are left, if it says them, are kept so
abbrev pub IsMadeEnding : Ending → Type 0
IsMadeEnding (Left left) = left ≡ set_from (members left)
IsMadeEnding _ = Unit {0}

abbrev pub IsMade : Action → Type 0
IsMade a = IsMadeEnding (row_of a).ending
