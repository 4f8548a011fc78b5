-- What the notes got.
use Rattle.std.proofs.Common.{inl, inr, ℕ, List, Option, Result, Ok, Err, OnOk, OnErr, ◌≡◌, sym, subst}
use Rattle.std.specs.Io.KnownBytes.{Appends}
use Rattle.firefly_outside.specs.Causes.{AppendsPrefix, HasCause}
use Rattle.command_endings.specs.Changes.{Change, Notes}
use Rattle.command_endings.specs.Endings.{message_of}
use Rattle.command_endings.specs.Messages.{stopped_message}
use Rattle.command_endings.specs.declared.ending.Ending.{Ending}

module _ {E : Type 0} where
  pub noted : (r : Result (Unit {0}) E) (old new : Option (List ℕ)) (before now : ℕ) (text : List ℕ) → OnOk r (Appends old new text) → OnErr r (AppendsPrefix old new text) → HasCause before now r
      → Notes (record { old = old; new = new; before = before; now = now }) text
  noted (Ok u) old new before now text ok err cause = inl ok
  noted (Err e) old new before now text ok err cause = inr (cause.failed, err)

-- the message of the same ending
pub noted_ending : (e f : Ending) (notes : Change) → e ≡ f → Notes notes (message_of f) → Notes notes (message_of e)
noted_ending e f notes is h = subst (λ (x : Ending). Notes notes (message_of x)) (sym is) h

-- the message of the same two numbers
pub noted_stopped : (notes : Change) (a b k n : ℕ) → a ≡ k → b ≡ n → Notes notes (stopped_message a b) → Notes notes (stopped_message k n)
noted_stopped notes a b k n ea eb h = subst (λ (x : ℕ). Notes notes (stopped_message x n)) ea (subst (λ (x : ℕ). Notes notes (stopped_message a x)) eb h)
