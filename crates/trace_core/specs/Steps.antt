-- What the steps of a reader do.
use Rattle.std.specs.Prelude.{◌≡◌, ℕ, ◌+◌, ◌≤◌, List, ◌++◌, length, Ok, Err, Some, None, IfSome}
use Rattle.std.specs.Io.KnownBytes.{Consumes}
use Rattle.std.specs.declared.option.Option.{Option}
use Rattle.std.specs.declared.result.Result.{Result}
use Rattle.larch_actions.specs.declared.event.Layout.{Layout}
use Rattle.larch_actions.specs.declared.event.Event.{Event}
use Rattle.larch_actions.specs.Layout.{IsLawful, HasNames}
use Rattle.exact_text.specs.declared.fault.TextFault.{TextFault}
use Rattle.trace_core.specs.declared.line.Expect.TheVariants as expect
use Rattle.trace_core.specs.declared.line.Line.TheVariants as line
use Rattle.trace_core.specs.declared.reader_state.Progress.{Progress}
use Rattle.trace_core.specs.declared.reader_state.Phase.TheVariants as phase
use Rattle.exact_text.specs.Exact.{HasReason, bytes_room}
use Rattle.trace_core.specs.Lacking.{LacksAt, IsUndecided}
use Rattle.trace_core.specs.Lines.{line_at}
use Rattle.trace_core.specs.Made.{IsMade}
use Rattle.trace_core.specs.ReaderState.{ReaderState}
use Rattle.trace_core.specs.Text.{MutexValue, AreValues, IsRest, head_text, event_line, end_line, values_text}

-- the bytes of the text were read
pub record Passes (old new : ReaderState) (text : List ℕ) (count : ℕ) : Type 0 where
  pub bytes : Consumes old.rest new.rest text
  pub room : new.room + length text ≡ old.room
  pub lines : new.lines ≡ old.lines + count

-- the head of the text with this layout was read, and events come next
pub record TakesHead (old new : ReaderState) (l : Layout) : Type 0 where
  pub lawful : IsLawful l
  pub passes : Passes old new (head_text l) 2
  pub phase : new.phase ≡ phase.Events
  pub layout : new.layout ≡ l
  pub place : new.place ≡ 0

-- the line of the event in its place was read
pub record TakesEvent (old new : ReaderState) (event : Event) : Type 0 where
  pub names : HasNames old.layout event
  pub made : IsMade event.action
  pub passes : Passes old new (event_line old.place event) 1
  pub phase : new.phase ≡ phase.Events
  pub layout : new.layout ≡ old.layout
  pub place : new.place ≡ old.place + 1

-- The line of the event in its place was read from the bytes held, and counted.
pub record IsTaken (old new : Progress) (event : Event) : Type 0 where
  pub line : line_at (expect.Events old.layout old.place) old.intake.window ≡ Ok (line.Event event, new.intake.window)
  pub lines : new.intake.lines ≡ old.intake.lines + 1
  pub given : new.intake.given ≡ old.intake.given
  pub budget : new.intake.budget ≡ old.intake.budget
  pub phase : new.phase ≡ old.phase
  pub layout : new.layout ≡ old.layout
  pub place : new.place ≡ old.place + 1

-- the bytes are the end line and value lines
abbrev pub IsEnding : Layout → ℕ → List ℕ → Type 0
IsEnding l n bytes = (vs : List MutexValue) × AreValues l 0 vs × (bytes ≡ end_line n ++ values_text vs)

-- the end line, the value lines and the end of the input were read, within what may be read
pub record TakesEnd (old new : ReaderState) : Type 0 where
  pub whole : IfSome old.rest (λ bytes. IsEnding old.layout old.place bytes × (length bytes ≤ old.room))
  pub phase : new.phase ≡ phase.Ended

-- The fault has its reason, and stays. None of the texts of the lawful values was there to be given.
pub record Breaks {X : Type 0} (Text : List ℕ → Type 0) (lawful : X → Type 0) (text : X → List ℕ) (old new : ReaderState)
    (left' : Option (List ℕ)) (before now : ℕ) (fault : TextFault) : Type 0 where
  pub reason : HasReason Text (bytes_room old.room) old.lines old.rest left' before now fault
  pub lacks : LacksAt lawful text old.room old.rest left' fault
  pub phase : new.phase ≡ phase.Failed fault

-- among the events the one in its place was read, or the end, or there is a fault
abbrev pub GoesOn : ReaderState → ReaderState → Option (List ℕ) → ℕ → ℕ → Result (Option Event) TextFault → Type 0
GoesOn old new left' before now (Ok (Some event)) = TakesEvent old new event
GoesOn old new left' before now (Ok None) = TakesEnd old new
GoesOn old new left' before now (Err fault) =
    Breaks (IsRest old.layout old.place) (HasNames old.layout) (event_line old.place) old new left' before now fault

-- the bytes held don't decide the line in the next event's place
abbrev pub IsEventOpen : Progress → Type 0
IsEventOpen p = IsUndecided (IsRest p.layout p.place) (HasNames p.layout) (event_line p.place) p.intake.window
