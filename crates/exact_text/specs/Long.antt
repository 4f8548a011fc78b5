-- What is taken where memory may run out.
use Rattle.std.specs.Prelude.{ℕ, List, Bool, Result, Ok, Err}
use Rattle.std.specs.declared.option.Option.{Option}
use Rattle.exact_text.specs.declared.intake.Intake.{Intake}
use Rattle.exact_text.specs.declared.fault.TextFault.{TextFault}
use Rattle.exact_text.specs.Exact.{OrMemory}
use Rattle.exact_text.specs.Intake.{IsFilled, IsAsked}

-- what one more piece does
abbrev pub IsLongFilled : Intake → Intake → Option (List ℕ) → Option (List ℕ) → ℕ → ℕ → Result Bool TextFault → Type 0
IsLongFilled old new left left' before now (Ok more) = IsFilled old new left left' before now (Ok more)
IsLongFilled old new left left' before now (Err fault) = OrMemory (λ f. IsFilled old new left left' before now (Err f)) fault

-- whether a byte is held, or else what one more piece does
abbrev pub IsLongAsked : Intake → Intake → Option (List ℕ) → Option (List ℕ) → ℕ → ℕ → Result Bool TextFault → Type 0
IsLongAsked old new left left' before now (Ok more) = IsAsked old new left left' before now (Ok more)
IsLongAsked old new left left' before now (Err fault) = OrMemory (λ f. IsAsked old new left left' before now (Err f)) fault
