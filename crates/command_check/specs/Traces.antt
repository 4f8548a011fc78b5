-- Traces of whole runs.
use Rattle.std.specs.Prelude.{ℕ, List}
use Rattle.larch_actions.specs.declared.event.Layout.{Layout}
use Rattle.larch_actions.specs.declared.event.Event.{Event}
use Rattle.larch_actions.specs.Actions.{IsClosed}
use Rattle.trace_core.specs.Text.{MutexValue, ReadsAs}

-- the bytes are the text of a legal and closed list of events, with these values
pub record IsClosedTrace (l : Layout) (values : List MutexValue) (events : List Event) (bytes : List ℕ) : Type 0 where
  pub reads : ReadsAs bytes l events values
  pub closed : IsClosed l.version events
