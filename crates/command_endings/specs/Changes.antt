-- What a call did to the objects that were handed in.
use Rattle.std.specs.Prelude.{◌≡◌, ◌⊎◌, ℕ, List}
use Rattle.std.specs.Io.KnownBytes.{Appends}
use Rattle.std.specs.declared.option.Option.{Option}
use Rattle.firefly_outside.specs.Causes.{Rose, AppendsPrefix}

-- the bytes that an object shows, and its count of faults, before a call and after it
pub record Change : Type 0 where
  pub old : Option (List ℕ)
  pub new : Option (List ℕ)
  pub before : ℕ
  pub now : ℕ

abbrev pub change_of : {X : Type 0} → (X → Option (List ℕ)) → (X → ℕ) → X → X → Change
change_of reported faults old new = record { old = reported old; new = reported new; before = faults old; now = faults new }

-- the object is as it was
abbrev pub IsStill : Change → Type 0
IsStill c = (c.new ≡ c.old) × (c.now ≡ c.before)

-- the sink got this text
abbrev pub Gets : Change → List ℕ → Type 0
Gets c text = Appends c.old c.new text

-- the count rose, and the sink got a proper prefix of this text
abbrev pub GetsPrefix : Change → List ℕ → Type 0
GetsPrefix c text = Rose c.before c.now × AppendsPrefix c.old c.new text

-- the notes got this message, or where their count rose a proper prefix of it
abbrev pub Notes : Change → List ℕ → Type 0
Notes c message = Gets c message ⊎ GetsPrefix c message
