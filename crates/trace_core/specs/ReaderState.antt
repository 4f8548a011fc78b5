-- Where a reader is in its text.
use Rattle.std.specs.Prelude.{ℕ, List}
use Rattle.std.specs.declared.option.Option.{Option}
use Rattle.larch_actions.specs.declared.event.Layout.{Layout}
use Rattle.trace_core.specs.declared.reader_state.Progress.{Progress}
use Rattle.trace_core.specs.declared.reader_state.Phase.{Phase}
use Rattle.exact_text.specs.Intake.{rest_of, room_of}

pub record ReaderState : Type 0 where
  -- the bytes that aren't read yet, where the source shows them
  pub rest : Option (List ℕ)
  -- how many of them may be read
  pub room : ℕ
  -- how many lines were read
  pub lines : ℕ
  pub phase : Phase
  -- among the events: the layout, and the place of the next event
  pub layout : Layout
  pub place : ℕ

abbrev pub reader_state_of : Progress → Option (List ℕ) → ReaderState
reader_state_of p left =
    record {
      rest = rest_of p.intake left;
      room = room_of p.intake;
      lines = p.intake.lines;
      phase = p.phase;
      layout = p.layout;
      place = p.place;
    }
