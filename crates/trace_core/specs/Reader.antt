-- What callers of a reader see.
use Rattle.std.specs.Prelude.{◌≡◌, ℕ, List, []}
use Rattle.std.specs.Borrow.{MutBor}
use Rattle.std.specs.declared.option.Option.{Option}
use Rattle.trace_core.specs.declared.reader.EventReader.{EventReader}
use Rattle.trace_core.specs.declared.reader_state.Phase.TheVariants as phase
use Rattle.trace_core.specs.ReaderState.{ReaderState, reader_state_of}

-- the source that is read from
abbrev pub input_of : {I : Type 0} → EventReader I → MutBor I
input_of r = r.input

-- the bytes that the source gave and that aren't read yet
abbrev pub held_of : {I : Type 0} → EventReader I → List ℕ
held_of r = r.progress.intake.window

-- where the reader is, given what the source shows
abbrev pub standing : {I : Type 0} → (I → Option (List ℕ)) → EventReader I → ReaderState
standing left r = reader_state_of r.progress (left r.input.now)

-- nothing of the input was read yet
pub record IsFresh {I : Type 0} (left : I → Option (List ℕ)) (r : EventReader I) (input : MutBor I) (budget : ℕ) : Type 0 where
  pub same_input : r.input.ghost_name ≡ input.ghost_name
  pub now : r.input.now ≡ input.now
  pub held : held_of r ≡ []
  pub rest : (standing left r).rest ≡ left input.now
  pub room : (standing left r).room ≡ budget
  pub lines : (standing left r).lines ≡ 0
  pub phase : (standing left r).phase ≡ phase.Head
