-- The results of the command `trace`.
use Rattle.std.specs.Prelude.{ℕ, true, List, [], Option}
use Rattle.larch_actions.specs.declared.event.Event.{Event}
use Rattle.word_index.specs.Index.{Index}
use Rattle.indexer.specs.Plans.{layout_of}
use Rattle.command_line.specs.Grammar.{Options}
use Rattle.command_endings.specs.declared.status.Status.{Status}
use Rattle.command_endings.specs.declared.status.Status.TheVariants.{Done, Usage, ReadFault, SinkFault, Stopped, Memory, Illegal, BadText, TooMany, TooLong}
use Rattle.command_endings.specs.Changes.{Change, IsStill, Gets, GetsPrefix, Notes}
use Rattle.firefly.specs.IndexRun.{AreAskedOnce, IsTheIndex, NoIndex, NoneRose, ShowsWork, plan_of}
use Rattle.firefly.specs.Looks.{Look}
use Rattle.command_endings.specs.Messages.{output_fault_message}
use Rattle.command_check.specs.Traces.{IsClosedTrace}

-- the trace of a run that made the index: a legal and closed list of events of the plan's layout,
-- without values, which shows the work of the walkers and parsers; no tree's count rose, and each
-- directory was listed once and each file read once
pub record IsIndexTrace (o : Options) (old new : List (Option Look)) (bytes : List ℕ) : Type 0 where
  pub events : List Event
  pub trace : IsClosedTrace (layout_of (plan_of o true)) [] events bytes
  pub piece : Index
  pub is_index : IsTheIndex o old piece
  pub none_rose : NoneRose old new
  pub once : AreAskedOnce o old new
  pub work : ShowsWork o old new events

-- the cause of each status
abbrev pub TraceAnswers : Options → List (Option Look) → List (Option Look) → Change → Change → Status → Type 0
TraceAnswers o old new out notes Done = (bytes : List ℕ) × IsIndexTrace o old new bytes × Gets out bytes × IsStill notes
TraceAnswers o old new out notes SinkFault =
    (bytes : List ℕ) × IsIndexTrace o old new bytes × GetsPrefix out bytes × Notes notes output_fault_message
TraceAnswers o old new out notes Stopped = NoIndex o old new notes Stopped × IsStill out
TraceAnswers o old new out notes TooMany = NoIndex o old new notes TooMany × IsStill out
TraceAnswers o old new out notes ReadFault = NoIndex o old new notes ReadFault × IsStill out
TraceAnswers o old new out notes Memory = NoIndex o old new notes Memory × IsStill out
TraceAnswers o old new out notes Usage = ⊥
TraceAnswers o old new out notes Illegal = ⊥
TraceAnswers o old new out notes BadText = ⊥
TraceAnswers o old new out notes TooLong = ⊥
