-- What is taken from a source within a budget.
use Rattle.std.specs.Prelude.{◌≡◌, ℕ, ◌+◌, ◌-◌, ◌<◌, ◌≤◌, List, [], length, Bool, true, false, Result, Ok, Err, IfErr, OnOk, ◌≢◌}
use Rattle.std.specs.Io.KnownBytes.{Consumes, IsAtEnd, Keeps, prepend_known}
use Rattle.std.specs.declared.option.Option.{Option}
use Rattle.firefly_outside.specs.Causes.{Rose}
use Rattle.exact_text.specs.declared.intake.Intake.{Intake}
use Rattle.exact_text.specs.declared.fault.TextFault.{TextFault}
use Rattle.exact_text.specs.declared.fault.TextFault.TheVariants.{Memory, BadLine, TooLong, Read}

-- the bytes that aren't read yet
abbrev pub rest_of : Intake → Option (List ℕ) → Option (List ℕ)
rest_of intake left = prepend_known intake.window left

-- how many of them may be read
abbrev pub room_of : Intake → ℕ
room_of intake = intake.budget - intake.given + length intake.window

-- the budget and the count of lines stay
abbrev pub SameBudget : Intake → Intake → Type 0
SameBudget old new = (new.budget ≡ old.budget) × (new.lines ≡ old.lines)

-- what one more piece does
abbrev pub IsFilled : Intake → Intake → Option (List ℕ) → Option (List ℕ) → ℕ → ℕ → Result Bool TextFault → Type 0
IsFilled old new left left' before now (Ok true) =
    SameBudget old new × (old.given < new.given) × (room_of new ≡ room_of old) × Keeps (rest_of old left) (rest_of new left')
IsFilled old new left left' before now (Ok false) =
    SameBudget old new × (new.window ≡ old.window) × (room_of new ≡ room_of old) × Keeps left left' × IsAtEnd left'
IsFilled old new left left' before now (Err Memory) = ⊥
IsFilled old new left left' before now (Err (BadLine k)) = ⊥
IsFilled old new left left' before now (Err TooLong) =
    (old.given ≡ old.budget) × ((piece : List ℕ) × Consumes left left' piece × (0 < length piece))
IsFilled old new left left' before now (Err Read) = Rose before now × Keeps left left'

-- A failed read is reported: the count of faults never falls, and rises only where the call reports a failed read.
pub record IsReported {T : Type 0} (before now : ℕ) (result : Result T TextFault) : Type 0 where
  pub later : before ≤ now
  pub unfailed : OnOk result (now ≡ before)
  pub otherwise : IfErr result (λ fault. fault ≢ Read → now ≡ before)

-- whether a byte is held, or else what one more piece does
abbrev pub IsAsked : Intake → Intake → Option (List ℕ) → Option (List ℕ) → ℕ → ℕ → Result Bool TextFault → Type 0
IsAsked old new left left' before now (Ok true) =
    SameBudget old new × (room_of new ≡ room_of old) × Keeps (rest_of old left) (rest_of new left') × (0 < length new.window)
IsAsked old new left left' before now (Ok false) = SameBudget old new × (old.window ≡ []) × Keeps left left' × IsAtEnd left'
IsAsked old new left left' before now (Err fault) = (old.window ≡ []) × IsFilled old new left left' before now (Err fault)
